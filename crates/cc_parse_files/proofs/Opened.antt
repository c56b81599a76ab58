-- A statement and a block, opened by one level.
use Rattle.std.proofs.Common.{◌≡◌, ◌<◌, ◌-◌, refl, ℕ, zero, suc, Bool, true, false, List, [], ◌∷◌, Ok, Err, sym, ap, ◌∙◌, arith}
use denote.Enum.Bare.{same_true}
use Rattle.cc_base.specs.declared.place.Spot.{Spot}
use Rattle.cc_lex.specs.declared.token.Token.{Token}
use Rattle.cc_lex.specs.declared.token.TokenKind.{TokenKind}
use Rattle.cc_lex.specs.declared.token.TokenKind.TheVariants as kind
use Rattle.cc_lex.specs.declared.punct.Punct.{Punct}
use Rattle.cc_lex.specs.declared.punct.Punct.TheVariants as the_punct
use Rattle.cc_lex.specs.contracts.punct.Punct as puncts
use Rattle.cc_tree.specs.Trees.{ItemTree, compound, block}
use Rattle.cc_tree.specs.Views.{gathered_items}
use Rattle.cc_grammar.specs.Classes.{is_punct, next_is, skip, spot, stmt_start, stmt_kind, StmtStart, begins_block}
use Rattle.cc_grammar.specs.Names.{Names}
use Rattle.cc_grammar.specs.Outcomes.{Outcome, Parser, and_then, ◌>>=◌, pure, refuse}
use Rattle.cc_grammar.specs.Reading.{branch, stmt, stmt_by, items, only_block, body}
use Rattle.cc_parse_files.specs.Parts.{items_in, block_behind, stmt_at}

pub stmt_is : (d : ℕ) (names : Names) (ts : List Token) → 0 < d → stmt d names ts ≡ stmt_at (d - 1) names ts
stmt_is zero names ts h = absurd (omega (arith, h))
stmt_is (suc d) names ts h = let less : suc d - 1 ≡ d = omega arith in rw less refl

pub no_stmt : (d : ℕ) (names : Names) (ts : List Token) → d ≡ 0 → stmt d names ts ≡ Err ts
no_stmt zero names ts h = refl
no_stmt (suc d) names ts h = absurd (omega (arith, h))

punct_kind : (s : Punct) (k : TokenKind) → is_punct s k ≡ true → k ≡ kind.Punct s
punct_kind s (kind.Punct t) e = ap (λ x. kind.Punct x) (sym (same_true puncts.the_type tt s t e))
punct_kind s (kind.Keyword w) e = absurd cc
punct_kind s (kind.Identifier x) e = absurd cc
punct_kind s (kind.Integer v c) e = absurd cc
punct_kind s (kind.Character v) e = absurd cc
punct_kind s (kind.Str bytes) e = absurd cc

branch_true : {A : Type 0} (b : Bool) (p q : Parser A) (ts : List Token) → b ≡ true → branch b p q ts ≡ p ts
branch_true true p q ts e = refl
branch_true false p q ts e = absurd cc

starts_block : (ts : List Token) → next_is the_punct.LeftBrace ts ≡ true → stmt_start ts ≡ begins_block
starts_block [] e = absurd cc
starts_block (t ∷ ts) e = ap stmt_kind (punct_kind the_punct.LeftBrace t.kind e)

only : (n : Spot) (o : Outcome (List (ItemTree Spot))) → and_then (and_then o (λ is. pure (compound (block n (gathered_items is))))) only_block ≡ and_then o (λ is. pure (block n (gathered_items is)))
only n (Ok y) = refl
only n (Err r) = refl

block_by : (d : ℕ) (names : Names) (ts : List Token) (b : StmtStart) → b ≡ begins_block → and_then (stmt_by (stmt d) d b names (spot ts) ts) only_block ≡ block_behind d names (spot ts) (skip ts)
unfolding items_in
block_by d names ts b e = rw e (only (spot ts) (items (stmt d) d names (skip ts)))

pub body_is : (d : ℕ) (names : Names) (ts : List Token) → 0 < d → next_is the_punct.LeftBrace ts ≡ true → body (stmt d) d names ts ≡ block_behind (d - 1) names (spot ts) (skip ts)
body_is zero names ts h e = absurd (omega (arith, h))
body_is (suc d) names ts h e =
    let less : suc d - 1 ≡ d = omega arith in
    branch_true (next_is the_punct.LeftBrace ts) (stmt (suc d) names >>= only_block) refuse ts e ∙ block_by d names ts (stmt_start ts) (starts_block ts e) ∙ ap (λ n. block_behind n names (spot ts) (skip ts)) (sym less)

pub no_brace : (d : ℕ) (names : Names) (ts : List Token) → next_is the_punct.LeftBrace ts ≡ false → body (stmt d) d names ts ≡ Err ts
no_brace d names ts e = rw e refl

either : (names : Names) (ts : List Token) (b : Bool) → branch b (stmt zero names >>= only_block) refuse ts ≡ Err ts
either names ts true = refl
either names ts false = refl

pub no_body : (d : ℕ) (names : Names) (ts : List Token) → d ≡ 0 → body (stmt d) d names ts ≡ Err ts
no_body zero names ts h = either names ts (next_is the_punct.LeftBrace ts)
no_body (suc d) names ts h = absurd (omega (arith, h))
