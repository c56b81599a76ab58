-- A statement by the class of its first token.
use Rattle.std.proofs.Common.{◌≡◌, ℕ, List, Ok, Err, refl, sym, ap, ◌∙◌}
use Rattle.cc_base.specs.declared.place.Spot.{Spot}
use Rattle.cc_lex.specs.declared.token.Token.{Token}
use Rattle.cc_tree.specs.Trees.{ItemTree, compound, block}
use Rattle.cc_tree.specs.Views.{gathered_items}
use Rattle.cc_grammar.specs.Classes.{skip, spot, stmt_start}
use Rattle.cc_grammar.specs.Names.{Names}
use Rattle.cc_grammar.specs.Outcomes.{Outcome, and_then, pure}
use Rattle.cc_grammar.specs.Reading.{stmt, stmt_by, items}
use Rattle.cc_parse_tokens.specs.Classes.{stmt_of}
use Rattle.cc_parse_tokens.specs.declared.class.StmtStart.{StmtStart}
use Rattle.cc_parse_tokens.specs.declared.class.StmtStart.TheVariants as the_stmt_start
use Rattle.cc_parse_files.proofs.Clauses.{for_is, return_is}
use Rattle.cc_parse_files.specs.Parts.{items_in, first_at, stmt_at}

both : (n : Spot) (o : Outcome (List (ItemTree Spot))) → and_then o (λ is. pure (compound (block n (gathered_items is)))) ≡ and_then (and_then o (λ is. pure (block n (gathered_items is)))) (λ b. pure (compound b))
both n (Ok y) = refl
both n (Err r) = refl

by_class : (d : ℕ) (start : StmtStart) (names : Names) (n : Spot) (ts : List Token) → stmt_by (stmt d) d (stmt_of start) names n ts ≡ first_at d start names n ts
unfolding items_in
by_class d the_stmt_start.Block names n ts = both n (items (stmt d) d names (skip ts))
by_class d the_stmt_start.Empty names n ts = refl
by_class d the_stmt_start.If names n ts = refl
by_class d the_stmt_start.Switch names n ts = refl
by_class d the_stmt_start.While names n ts = refl
by_class d the_stmt_start.Do names n ts = refl
by_class d the_stmt_start.For names n ts = for_is d names n ts
by_class d the_stmt_start.Break names n ts = refl
by_class d the_stmt_start.Continue names n ts = refl
by_class d the_stmt_start.Return names n ts = return_is d names n ts
by_class d the_stmt_start.Case names n ts = refl
by_class d the_stmt_start.Default names n ts = refl
by_class d the_stmt_start.Other names n ts = refl

pub first_is : (d : ℕ) (start : StmtStart) (names : Names) (ts : List Token) → stmt_of start ≡ stmt_start ts → stmt_at d names ts ≡ first_at d start names (spot ts) ts
first_is d start names ts e = ap (λ c. stmt_by (stmt d) d c names (spot ts) ts) (sym e) ∙ by_class d start names (spot ts) ts
