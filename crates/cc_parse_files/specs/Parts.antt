-- Parts of the readers that are functions of their own in the code.
use Rattle.std.specs.Prelude.{ℕ, List, Option}
use Rattle.cc_base.specs.declared.place.Spot.{Spot}
use Rattle.cc_lex.specs.declared.keyword.Keyword.TheVariants as the_keyword
use Rattle.cc_lex.specs.declared.punct.Punct.{Punct}
use Rattle.cc_lex.specs.declared.punct.Punct.TheVariants as the_punct
use Rattle.cc_tree.specs.Trees.{ExprTree, DeclTree, SpecTrees, DeclarationTree, declaration, StartTree, start_declaration, StmtTree, compound, empty, if_else, switch, while_loop, do_loop, for_loop, break, continue, return, plain, BlockTree, block, ItemTree, declares, does, ExternalTree, outer_declaration, definition}
use Rattle.cc_tree.specs.Views.{gathered_items}
use Rattle.cc_grammar.specs.Classes.{next_is, spot, begins_case, begins_default, stmt_start}
use Rattle.cc_grammar.specs.Names.{Names, has_typedef, after_start, after_stmt}
use Rattle.cc_grammar.specs.Outcomes.{Parser, ◌>>=◌, ◌>>◌, pure, ◌<$>◌, refuse, take, take_keyword}
use Rattle.cc_parse_tokens.specs.declared.class.StmtStart.{StmtStart}
use Rattle.cc_parse_tokens.specs.declared.class.StmtStart.TheVariants as the_stmt_start
use Rattle.cc_grammar.specs.Reading.{skipping, readers, with_name, spot_or, inits, stmt, declaration_at, items, condition, body, else_behind, clause_until, start_clause, counted, label_by, stmt_by, external_behind}

-- a declaration behind its specifiers, where declarators follow
abbrev pub declared : ℕ → Names → Spot → SpecTrees Spot → Parser (DeclarationTree Spot)
declared d names n ss = (readers names d).declarator with_name >>= inits d (has_typedef ss) names >>= (λ is. take the_punct.Semicolon >> pure (declaration n ss is))

-- what stands in a file, behind its specifiers and behind its first declarator
abbrev pub definition_at : ℕ → Names → Spot → SpecTrees Spot → DeclTree Spot → Parser (ExternalTree Spot)
definition_at d names n ss e = definition (spot_or e n) ss e <$> body (stmt d) d names

abbrev pub outer_at : ℕ → Names → Spot → SpecTrees Spot → DeclTree Spot → Parser (ExternalTree Spot)
outer_at d names n ss e = inits d (has_typedef ss) names e >>= (λ is. take the_punct.Semicolon >> pure (outer_declaration (declaration n ss is)))

abbrev pub behind_specs : ℕ → Names → Spot → SpecTrees Spot → Parser (ExternalTree Spot)
behind_specs d names n ss = (readers names d).declarator with_name >>= external_behind d names n ss

-- what stands in a block, where statements inside are no deeper than the number
abbrev pub declares_at : ℕ → Names → Parser (ItemTree Spot)
declares_at d names = counted (stmt d) d (λ e. declares <$> declaration_at e names)

abbrev pub start_declares_at : ℕ → Names → Parser (StartTree Spot)
start_declares_at d names = counted (stmt d) d (λ e. start_declaration <$> declaration_at e names)

abbrev pub case_at : ℕ → Names → Spot → Parser (ItemTree Spot)
case_at d names n = label_by (stmt d) d begins_case names n

abbrev pub default_at : ℕ → Names → Spot → Parser (ItemTree Spot)
default_at d names n = label_by (stmt d) d begins_default names n

abbrev pub does_at : ℕ → Names → Parser (ItemTree Spot)
does_at d names = does <$> stmt d names

abbrev pub labelled_at : ℕ → Names → Parser (ItemTree Spot)
labelled_at d names = λ ts. label_by (stmt d) d (stmt_start ts) names (spot ts) ts

-- statements, where statements inside are no deeper than the number
unfoldable pub items_in : ℕ → Names → Parser (List (ItemTree Spot))
items_in d names = items (stmt d) d names

abbrev pub block_behind : ℕ → Names → Spot → Parser (BlockTree Spot)
block_behind d names n = (λ is. block n (gathered_items is)) <$> items_in d names

abbrev pub block_at : ℕ → Names → Spot → Parser (StmtTree Spot)
block_at d names n = skipping (compound <$> block_behind d names n)

abbrev pub empty_at : Spot → Parser (StmtTree Spot)
empty_at n = skipping (pure (empty n))

abbrev pub break_at : Spot → Parser (StmtTree Spot)
break_at n = skipping (take the_punct.Semicolon >> pure (break n))

abbrev pub continue_at : Spot → Parser (StmtTree Spot)
continue_at n = skipping (take the_punct.Semicolon >> pure (continue n))

abbrev pub branches : ℕ → Names → Spot → ExprTree Spot → Parser (StmtTree Spot)
branches d names n c = stmt d names >>= else_behind (stmt d) d names n c

-- `else` behind its word
abbrev pub else_at : ℕ → Names → Spot → ExprTree Spot → StmtTree Spot → Parser (StmtTree Spot)
else_at d names n c s = if_else n c s <$> stmt d names

abbrev pub if_at : ℕ → Names → Spot → Parser (StmtTree Spot)
if_at d names n = skipping (condition (stmt d) d names >>= branches d names n)

abbrev pub switch_at : ℕ → Names → Spot → Parser (StmtTree Spot)
switch_at d names n = skipping (condition (stmt d) d names >>= (λ e. switch n e <$> body (stmt d) d names))

abbrev pub while_at : ℕ → Names → Spot → Parser (StmtTree Spot)
while_at d names n = skipping (condition (stmt d) d names >>= (λ c. while_loop n c <$> stmt d names))

abbrev pub do_behind : ℕ → Names → Spot → StmtTree Spot → Parser (StmtTree Spot)
do_behind d names n s = take_keyword the_keyword.While >> condition (stmt d) d names >>= (λ c. take the_punct.Semicolon >> pure (do_loop n s c))

abbrev pub do_at : ℕ → Names → Spot → Parser (StmtTree Spot)
do_at d names n = skipping (stmt d names >>= (λ s. do_behind d (after_stmt s names) n s))

-- a clause with the punctuator behind it
abbrev pub ended_clause : ℕ → Names → Punct → Parser (Option (ExprTree Spot))
ended_clause d names end = clause_until (stmt d) d names (next_is end) >>= (λ e. take end >> pure e)

abbrev pub for_body : ℕ → Names → Spot → StartTree Spot → Option (ExprTree Spot) → Option (ExprTree Spot) → Parser (StmtTree Spot)
for_body d names n start test each = for_loop n start test each <$> stmt d names

abbrev pub for_each : ℕ → Names → Spot → StartTree Spot → Option (ExprTree Spot) → Parser (StmtTree Spot)
for_each d names n start test = ended_clause d names the_punct.RightParen >>= for_body d names n start test

-- `for` behind its first clause, with the names after it
abbrev pub for_test : ℕ → Names → Spot → StartTree Spot → Parser (StmtTree Spot)
for_test d names n start = ended_clause d names the_punct.Semicolon >>= for_each d names n start

abbrev pub for_at : ℕ → Names → Spot → Parser (StmtTree Spot)
for_at d names n = skipping (take the_punct.LeftParen >> start_clause (stmt d) d names >>= (λ start. for_test d (after_start start names) n start))

abbrev pub return_at : ℕ → Names → Spot → Parser (StmtTree Spot)
return_at d names n = skipping (ended_clause d names the_punct.Semicolon >>= (λ e. pure (return n e)))

abbrev pub plain_at : ℕ → Names → Spot → Parser (StmtTree Spot)
plain_at d names n = (readers names d).expr 1 >>= (λ e. take the_punct.Semicolon >> pure (plain n e))

-- by the class of its first token, as the code has it
abbrev pub first_at : ℕ → StmtStart → Names → Spot → Parser (StmtTree Spot)
first_at d the_stmt_start.Block names n = block_at d names n
first_at d the_stmt_start.Empty names n = empty_at n
first_at d the_stmt_start.If names n = if_at d names n
first_at d the_stmt_start.Switch names n = switch_at d names n
first_at d the_stmt_start.While names n = while_at d names n
first_at d the_stmt_start.Do names n = do_at d names n
first_at d the_stmt_start.For names n = for_at d names n
first_at d the_stmt_start.Break names n = break_at n
first_at d the_stmt_start.Continue names n = continue_at n
first_at d the_stmt_start.Return names n = return_at d names n
first_at d the_stmt_start.Case names n = refuse
first_at d the_stmt_start.Default names n = refuse
first_at d the_stmt_start.Other names n = plain_at d names n

-- a statement whose statements inside are no deeper than the number
abbrev pub stmt_at : ℕ → Names → Parser (StmtTree Spot)
stmt_at d names = λ ts. stmt_by (stmt d) d (stmt_start ts) names (spot ts) ts
