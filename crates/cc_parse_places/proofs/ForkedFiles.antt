-- Initialisers, declarations, statements and files are read alike on two texts that part behind a token.
use Rattle.std.proofs.Common.{◌≤◌, refl, ℕ, zero, suc, Bool, List, [], ◌∷◌, Some, None, arith}
use Rattle.cc_base.specs.declared.place.Spot.{Spot}
use Rattle.cc_lex.specs.declared.token.Token.{Token}
use Rattle.cc_lex.specs.declared.keyword.Keyword.TheVariants as the_keyword
use Rattle.cc_lex.specs.declared.punct.Punct.TheVariants as the_punct
use Rattle.cc_tree.specs.Trees.{ExprTree, SpecTrees, DeclTree, ValueTree, single, braces, init, declaration, StartTree, start_declaration, start_expr, no_start, StmtTree, compound, plain, empty, if_then, if_else, switch, while_loop, do_loop, for_loop, break, continue, return, block, declares, case_label, default_label, does, outer_declaration, definition}
use Rattle.cc_tree.specs.Views.{gathered_values, gathered_items}
use Rattle.cc_grammar.specs.Names.{Names, has_typedef, after_declarator, after_start, after_stmt, after_item, after_external}
use Rattle.cc_grammar.specs.Classes.{next_is, next_is_keyword, spot, starts_spec, StmtStart, begins_block, begins_empty, begins_if, begins_switch, begins_while, begins_do, begins_for, begins_break, begins_continue, begins_return, begins_case, begins_default, begins_other, stmt_start}
use Rattle.cc_grammar.specs.Outcomes.{Parser}
use Rattle.cc_grammar.specs.Reading as reader
use Rattle.cc_grammar.specs.Reading.{with_name}
use Rattle.cc_parse_places.proofs.Forks.{Fork, Alike, Peeks, whole, alike_pure, alike_refuse, weak, lower, alike_bind, bind_within, alike_map, skip_on, alike_skipping, alike_view, alike_placed, alike_where, enough_turns}
use Rattle.cc_parse_places.proofs.ForkedLists.{Tame, tame_take, tame_take_keyword, tame_until, tame_enclosed}
use Rattle.cc_parse_places.proofs.ForkedSpecifiers.{tame_readers}

module _ {t : Fork} {u : ℕ} where
  -- ---- Initialisers and declarations

  tame_expr : (names : Names) (d least : ℕ) → Tame t 1 u ((reader.readers names d).expr least)
  tame_expr names d least = (tame_readers names d).expr least

  tame_value : (names : Names) (d : ℕ) → Tame t 1 u (reader.value names d)
  tame_value names zero = alike_refuse
  tame_value names (suc d) = alike_where (next_is the_punct.LeftBrace) _ _ _ _ (λ k us vs. refl)
      (alike_placed _ _ (λ n. alike_map (λ (vs : List (ValueTree Spot) × Bool). braces n (gathered_values vs.0) vs.1) _ _ (tame_enclosed _ (tame_value names d))))
      (alike_map single _ _ (tame_expr names (suc d) 2))

  tame_given : (names : Names) (d : ℕ) → Tame t 0 u (reader.given names d)
  tame_given names d = alike_where (next_is the_punct.Equal) _ _ _ _ (λ k us vs. refl) (weak (alike_skipping _ _ (alike_map Some _ _ (tame_value names d)))) (alike_pure None)

  inits_turn : (d : ℕ) (typedef : Bool) (k j v : ℕ) → v ≤ u → ((s : Names × DeclTree Spot) → Alike t 0 v (reader.inits_behind d typedef k s.0 s.1) (reader.inits_behind d typedef j s.0 s.1))
      → (s : Names × DeclTree Spot) → Alike t 0 (suc v) (reader.inits_behind d typedef (suc k) s.0 s.1) (reader.inits_behind d typedef (suc j) s.0 s.1)
  inits_turn d typedef k j v low rec s =
      let names = after_declarator typedef s.1 s.0 in
      alike_bind _ _ _ _ (lower (suc v) (omega (arith, low)) (tame_given names d)) (λ x. alike_where (next_is the_punct.Comma) _ _ _ _ (λ w us vs. refl)
      (weak (skip_on _ _ (alike_bind _ _ _ _ (lower v (omega (arith, low)) ((tame_readers {u = u} names d).declarator with_name)) (λ f. alike_map (λ is. init s.1 x ∷ is) _ _ (rec (names, f))))))
      (alike_pure (init s.1 x ∷ [])))

  tame_inits : (d : ℕ) (typedef : Bool) (names : Names) (e : DeclTree Spot) → Tame t 0 u (reader.inits d typedef names e)
  tame_inits d typedef names e = enough_turns u (λ k (s : Names × DeclTree Spot). reader.inits_behind d typedef k s.0 s.1) suc (λ m. omega arith) (λ s. whole) (inits_turn d typedef) (names, e)

  tame_declaration_at : (d : ℕ) (names : Names) → Tame t 1 u (reader.declaration_at d names)
  tame_declaration_at d names = alike_placed _ _ (λ n. alike_bind _ _ _ _ (tame_readers names d).specs (λ ss. alike_where (next_is the_punct.Semicolon) _ _ _ _ (λ k us vs. refl)
      (weak (alike_skipping _ _ (alike_pure (declaration n ss []))))
      (alike_bind _ _ _ _ (alike_bind _ _ _ _ ((tame_readers names d).declarator with_name) (tame_inits d (has_typedef ss) names)) (λ is. weak (tame_until the_punct.Semicolon (declaration n ss is))))))

  -- ---- Statements

  tame_only_block : (s : StmtTree Spot) → Tame t 0 u (reader.only_block s)
  tame_only_block (compound b) = alike_pure b
  tame_only_block (plain n e) = alike_refuse
  tame_only_block (empty n) = alike_refuse
  tame_only_block (if_then n c s) = alike_refuse
  tame_only_block (if_else n c s o) = alike_refuse
  tame_only_block (switch n e b) = alike_refuse
  tame_only_block (while_loop n c s) = alike_refuse
  tame_only_block (do_loop n s c) = alike_refuse
  tame_only_block (for_loop n start test each s) = alike_refuse
  tame_only_block (break n) = alike_refuse
  tame_only_block (continue n) = alike_refuse
  tame_only_block (return n e) = alike_refuse

  tame_counted_by : {A : Type 0} (d : ℕ) (one : ℕ → Parser A) → ((e : ℕ) → Tame t 1 u (one e)) → Tame t 1 u (reader.counted_by d one)
  tame_counted_by zero one h = alike_refuse
  tame_counted_by (suc e) one h = h e

  module _ (inner : Names → Parser (StmtTree Spot)) (good : (names : Names) → Tame t 1 u (inner names)) (d : ℕ) where
    tame_body : (names : Names) → Tame t 1 u (reader.body inner d names)
    tame_body names = alike_where (next_is the_punct.LeftBrace) _ _ _ _ (λ k us vs. refl) (alike_bind _ _ _ _ (good names) tame_only_block) alike_refuse

    tame_label_by : (s : StmtStart) (names : Names) (n : Spot) → Tame t 1 u (reader.label_by inner d s names n)
    tame_label_by begins_case names n = tame_counted_by d _ (λ e. alike_skipping _ _ (alike_bind _ _ _ _ (tame_expr names e 3) (λ x. weak (tame_until the_punct.Colon (case_label n x)))))
    tame_label_by begins_default names n = tame_counted_by d _ (λ e. alike_skipping _ _ (tame_until the_punct.Colon (default_label n)))
    tame_label_by begins_block names n = alike_map does _ _ (good names)
    tame_label_by begins_empty names n = alike_map does _ _ (good names)
    tame_label_by begins_if names n = alike_map does _ _ (good names)
    tame_label_by begins_switch names n = alike_map does _ _ (good names)
    tame_label_by begins_while names n = alike_map does _ _ (good names)
    tame_label_by begins_do names n = alike_map does _ _ (good names)
    tame_label_by begins_for names n = alike_map does _ _ (good names)
    tame_label_by begins_break names n = alike_map does _ _ (good names)
    tame_label_by begins_continue names n = alike_map does _ _ (good names)
    tame_label_by begins_return names n = alike_map does _ _ (good names)
    tame_label_by begins_other names n = alike_map does _ _ (good names)

    tame_item : (names : Names) → Tame t 1 u (reader.item inner d names)
    tame_item names = alike_where (starts_spec names) _ _ _ _ (λ k us vs. refl) (tame_counted_by d _ (λ e. alike_map declares _ _ (tame_declaration_at e names)))
        (alike_view stmt_start (λ s ts. reader.label_by inner d s names (spot ts) ts) (λ s ts. reader.label_by inner d s names (spot ts) ts) (λ k us vs. refl)
        (λ s. alike_view spot (reader.label_by inner d s names) (reader.label_by inner d s names) (λ k us vs. refl) (tame_label_by s names)))

    items_turn : (k j v : ℕ) → v ≤ u → ((names : Names) → Alike t 0 v (reader.items_by inner d k names) (reader.items_by inner d j names)) → (names : Names) → Alike t 0 (suc v) (reader.items_by inner d (suc k) names) (reader.items_by inner d (suc j) names)
    items_turn k j v low rec names = alike_where (next_is the_punct.RightBrace) _ _ _ _ (λ w us vs. refl) (weak (alike_skipping _ _ (alike_pure [])))
        (weak (bind_within v _ _ _ _ (omega arith) (lower (suc v) (omega (arith, low)) (tame_item names)) (λ i. alike_map (λ is. i ∷ is) _ _ (rec (after_item i names)))))

    tame_items : (names : Names) → Tame t 0 u (reader.items inner d names)
    tame_items names = enough_turns u (reader.items_by inner d) suc (λ m. omega arith) (λ s. whole) items_turn names

    tame_condition : (names : Names) → Tame t 1 u (reader.condition inner d names)
    tame_condition names = alike_bind _ _ _ _ (alike_bind _ _ _ _ (tame_take the_punct.LeftParen) (λ z. weak (tame_expr names d 1))) (λ c. weak (tame_until the_punct.RightParen c))

    tame_else_behind : (names : Names) (n : Spot) (c : ExprTree Spot) (s : StmtTree Spot) → Tame t 0 u (reader.else_behind inner d names n c s)
    tame_else_behind names n c s = alike_where (next_is_keyword the_keyword.Else) _ _ _ _ (λ k us vs. refl) (weak (alike_skipping _ _ (alike_map (if_else n c s) _ _ (good (after_stmt s names))))) (alike_pure (if_then n c s))

    tame_clause_until : (names : Names) (ends : List Token → Bool) → Peeks ends → Tame t 0 u (reader.clause_until inner d names ends)
    tame_clause_until names ends peeks = alike_where ends _ _ _ _ peeks (alike_pure None) (weak (alike_map Some _ _ (tame_expr names d 1)))

    tame_start_expr_behind : (names : Names) → Tame t 1 u (reader.start_expr_behind inner d names)
    tame_start_expr_behind names = alike_where (next_is the_punct.Semicolon) _ _ _ _ (λ k us vs. refl) (alike_skipping _ _ (alike_pure no_start)) (alike_bind _ _ _ _ (tame_expr names d 1) (λ e. weak (tame_until the_punct.Semicolon (start_expr e))))

    tame_start_clause : (names : Names) → Tame t 1 u (reader.start_clause inner d names)
    tame_start_clause names = alike_where (starts_spec names) _ _ _ _ (λ k us vs. refl) (tame_counted_by d _ (λ e. alike_map start_declaration _ _ (tame_declaration_at e names))) (tame_start_expr_behind names)

    tame_for_behind : (names : Names) (n : Spot) (start : StartTree Spot) → Tame t 0 u (reader.for_behind inner d names n start)
    tame_for_behind names n start =
        let later = after_start start names in
        alike_bind _ _ _ _ (tame_clause_until later (next_is the_punct.Semicolon) (λ k us vs. refl)) (λ test.
        alike_bind _ _ _ _ (alike_bind _ _ _ _ (weak (tame_take the_punct.Semicolon)) (λ z. tame_clause_until later (next_is the_punct.RightParen) (λ k us vs. refl))) (λ each.
        alike_bind _ _ _ _ (weak (tame_take the_punct.RightParen)) (λ z. weak (alike_map (for_loop n start test each) _ _ (good later)))))

    tame_stmt_by : (s : StmtStart) (names : Names) (n : Spot) → Tame t 1 u (reader.stmt_by inner d s names n)
    tame_stmt_by begins_block names n = alike_skipping _ _ (alike_map (λ is. compound (block n (gathered_items is))) _ _ (tame_items names))
    tame_stmt_by begins_empty names n = alike_skipping _ _ (alike_pure (empty n))
    tame_stmt_by begins_if names n = alike_skipping _ _ (alike_bind _ _ _ _ (tame_condition names) (λ c. weak (alike_bind _ _ _ _ (good names) (tame_else_behind names n c))))
    tame_stmt_by begins_switch names n = alike_skipping _ _ (alike_bind _ _ _ _ (tame_condition names) (λ e. weak (alike_map (switch n e) _ _ (tame_body names))))
    tame_stmt_by begins_while names n = alike_skipping _ _ (alike_bind _ _ _ _ (tame_condition names) (λ c. weak (alike_map (while_loop n c) _ _ (good names))))
    tame_stmt_by begins_do names n = alike_skipping _ _ (alike_bind _ _ _ _ (good names) (λ s. weak (alike_bind _ _ _ _ (alike_bind _ _ _ _ (tame_take_keyword the_keyword.While) (λ z. weak (tame_condition (after_stmt s names)))) (λ c. weak (tame_until the_punct.Semicolon (do_loop n s c))))))
    tame_stmt_by begins_for names n = alike_skipping _ _ (alike_bind _ _ _ _ (alike_bind _ _ _ _ (tame_take the_punct.LeftParen) (λ z. weak (tame_start_clause names))) (tame_for_behind names n))
    tame_stmt_by begins_break names n = alike_skipping _ _ (tame_until the_punct.Semicolon (break n))
    tame_stmt_by begins_continue names n = alike_skipping _ _ (tame_until the_punct.Semicolon (continue n))
    tame_stmt_by begins_return names n = alike_skipping _ _ (alike_bind _ _ _ _ (tame_clause_until names (next_is the_punct.Semicolon) (λ k us vs. refl)) (λ e. weak (tame_until the_punct.Semicolon (return n e))))
    tame_stmt_by begins_case names n = alike_refuse
    tame_stmt_by begins_default names n = alike_refuse
    tame_stmt_by begins_other names n = alike_bind _ _ _ _ (tame_expr names d 1) (λ e. weak (tame_until the_punct.Semicolon (plain n e)))

  tame_stmt : (d : ℕ) (names : Names) → Tame t 1 u (reader.stmt d names)
  tame_stmt zero names = alike_refuse
  tame_stmt (suc d) names = alike_view stmt_start (λ s ts. reader.stmt_by (reader.stmt d) d s names (spot ts) ts) (λ s ts. reader.stmt_by (reader.stmt d) d s names (spot ts) ts) (λ k us vs. refl)
      (λ s. alike_view spot (reader.stmt_by (reader.stmt d) d s names) (reader.stmt_by (reader.stmt d) d s names) (λ k us vs. refl) (tame_stmt_by (reader.stmt d) (tame_stmt d) d s names))

  -- ---- Files

  tame_external_behind : (d : ℕ) (names : Names) (n : Spot) (ss : SpecTrees Spot) (e : DeclTree Spot) → Tame t 0 u (reader.external_behind d names n ss e)
  tame_external_behind d names n ss e = alike_where (next_is the_punct.LeftBrace) _ _ _ _ (λ k us vs. refl) (weak (alike_map (definition (reader.spot_or e n) ss e) _ _ (tame_body (reader.stmt d) (tame_stmt d) d names)))
      (alike_bind _ _ _ _ (tame_inits d (has_typedef ss) names e) (λ is. weak (tame_until the_punct.Semicolon (outer_declaration (declaration n ss is)))))

  tame_external : (d : ℕ) (names : Names) → Tame t 1 u (reader.external d names)
  tame_external d names = alike_placed _ _ (λ n. alike_bind _ _ _ _ (tame_readers names d).specs (λ ss. alike_where (next_is the_punct.Semicolon) _ _ _ _ (λ k us vs. refl)
      (weak (alike_skipping _ _ (alike_pure (outer_declaration (declaration n ss [])))))
      (alike_bind _ _ _ _ ((tame_readers names d).declarator with_name) (tame_external_behind d names n ss))))

  externals_turn : (d k j v : ℕ) → v ≤ u → ((names : Names) → Alike t 0 v (reader.externals_by d k names) (reader.externals_by d j names)) → (names : Names) → Alike t 0 (suc v) (reader.externals_by d (suc k) names) (reader.externals_by d (suc j) names)
  externals_turn d k j v low rec names = alike_where reader.ended _ _ _ _ (λ w us vs. refl) (alike_pure [])
      (weak (bind_within v _ _ _ _ (omega arith) (lower (suc v) (omega (arith, low)) (tame_external d names)) (λ x. alike_map (λ xs. x ∷ xs) _ _ (rec (after_external x names)))))

  -- The reader of files does the same with both texts, until it is past the token.
  pub tame_reading : (d : ℕ) → Tame t 0 u (reader.reading d)
  unfolding reader.reading
  tame_reading d = enough_turns u (reader.externals_by d) suc (λ m. omega arith) (λ s. whole) (externals_turn d) []
