-- The suffixes of a declarator, round by round.
use Rattle.std.proofs.Common.{◌≡◌, ◌+◌, ◌-◌, ◌<◌, ◌≤◌, ◌&&◌, nat_lt, refl, ℕ, suc, true, false, List, Ok, Err, sym, ◌∙◌}
use Rattle.cc_base.specs.declared.place.Spot.{Spot}
use Rattle.cc_lex.specs.declared.token.Token.{Token}
use Rattle.cc_tree.specs.Depth.{declarator_depth}
use Rattle.cc_tree.specs.Trees.{DeclTree}
use Rattle.cc_grammar.specs.Names.{Names}
use Rattle.cc_grammar.specs.Outcomes.{Outcome}
use Rattle.cc_grammar.specs.Reading.{Inner, suffix, suffixes, suffix_comes}
use Rattle.cc_parse_tokens.proofs.Rounds.{one_more, no_more}

-- `total` is what is read in all, after `at` rounds of `end`, with `left` so far.
module _ (names : Names) (inner : Inner) (d : ℕ) (total : Outcome (DeclTree Spot)) (end at : ℕ) (left : DeclTree Spot) (ts : List Token) where
  abbrev pub Suffixing : Type 0
  Suffixing = total ≡ suffixes names inner d (end - at) left ts

  round : at < end → Suffixing → total ≡ suffixes names inner d (suc (end - (at + 1))) left ts
  round h e = one_more (λ n. suffixes names inner d n left ts) end at h e

  pub suffix_fails : at < end → Suffixing → true ≡ (suffix_comes names inner d ts && nat_lt (declarator_depth left) d) → (us : List Token) → suffix names inner d left ts ≡ Err us → total ≡ Err us
  suffix_fails h e c us f = round h e ∙ rw (sym c, f) refl

  pub suffix_goes : at < end → Suffixing → true ≡ (suffix_comes names inner d ts && nat_lt (declarator_depth left) d) → (x : DeclTree Spot) (us : List Token) → suffix names inner d left ts ≡ Ok (x, us)
      → total ≡ suffixes names inner d (end - (at + 1)) x us
  suffix_goes h e c x us f = round h e ∙ rw (sym c, f) refl

  pub suffix_ends : at < end → Suffixing → false ≡ (suffix_comes names inner d ts && nat_lt (declarator_depth left) d) → total ≡ Ok (left, ts)
  suffix_ends h e c = round h e ∙ rw (sym c) refl

  pub suffix_over : end ≤ at → Suffixing → total ≡ Ok (left, ts)
  suffix_over h e = no_more (λ n. suffixes names inner d n left ts) end at h e
