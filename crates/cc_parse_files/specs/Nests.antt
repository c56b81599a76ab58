-- What is asked of the functions that read statements and blocks inside: each gives what the reader at this depth gives, and leaves
-- the typedef names that stand behind it.
use Rattle.std.specs.Prelude.{◌≡◌, ℕ, List, Result, IfOk}
use Rattle.std.specs.declared.alloc.Global.{Global}
use denote.Ref.{MutBor}
use Rattle.cc_base.specs.declared.place.Spot.{Spot}
use Rattle.cc_lex.specs.declared.token.Token.{Token}
use Rattle.cc_tree.specs.declared.stmt.Stmt.{Stmt}
use Rattle.cc_tree.specs.declared.stmt.Block.{Block}
use Rattle.cc_tree.specs.Views.{view_stmt, view_block}
use Rattle.cc_grammar.specs.Names.{Names, after_stmt, after_block}
use Rattle.cc_grammar.specs.Reading.{stmt, body}
use Rattle.cc_parse_tokens.specs.declared.fault.Fault.{Fault}
use Rattle.cc_parse_tokens.specs.Gives.{Gives}
use Rattle.cc_parse_files.specs.declared.statement.Statements.{Statements}

pub record Nests {F G : Type 0} (rules : Statements F G)
    (pre : F → Global → MutBor (List Token) → MutBor Names → ℕ → Type 0)
    (post : F → Global → MutBor (List Token) → MutBor Names → ℕ → Result (Stmt Spot) Fault → MutBor (List Token) → MutBor Names → Type 0)
    (block_pre : G → Global → MutBor (List Token) → MutBor Names → ℕ → Type 0)
    (block_post : G → Global → MutBor (List Token) → MutBor Names → ℕ → Result (Block Spot) Fault → MutBor (List Token) → MutBor Names → Type 0) : Type 0 where
  pub callable : (alloc : Global) (old : MutBor (List Token)) (names : MutBor Names) → pre rules.read alloc old names rules.depth
  pub gives : (alloc : Global) (old new : MutBor (List Token)) (names after : MutBor Names) (r : Result (Stmt Spot) Fault) → post rules.read alloc old names rules.depth r new after
      → Gives view_stmt (stmt rules.depth names.now old.now) r new.now
  pub after : (alloc : Global) (old new : MutBor (List Token)) (names after : MutBor Names) (r : Result (Stmt Spot) Fault) → post rules.read alloc old names rules.depth r new after
      → IfOk r (λ s. after.now ≡ after_stmt (view_stmt s) names.now)
  pub block_callable : (alloc : Global) (old : MutBor (List Token)) (names : MutBor Names) → block_pre rules.read_block alloc old names rules.depth
  pub block_gives : (alloc : Global) (old new : MutBor (List Token)) (names after : MutBor Names) (r : Result (Block Spot) Fault) → block_post rules.read_block alloc old names rules.depth r new after
      → Gives view_block (body (stmt rules.depth) rules.depth names.now old.now) r new.now
  pub block_after : (alloc : Global) (old new : MutBor (List Token)) (names after : MutBor Names) (r : Result (Block Spot) Fault) → block_post rules.read_block alloc old names rules.depth r new after
      → IfOk r (λ b. after.now ≡ after_block (view_block b) names.now)
