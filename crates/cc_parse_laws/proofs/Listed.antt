-- The lists in expressions, specifiers and declarators as lists of items that are read one after another.
use Rattle.std.proofs.Common.{◌≡◌, ◌≤◌, refl, ℕ, suc, Bool, true, false, List, [], ◌∷◌, None, arith, sym, ap, subst}
use Rattle.cc_base.specs.declared.place.Spot.{Spot}
use Rattle.cc_lex.specs.declared.token.Token.{Token}
use Rattle.cc_lex.specs.declared.token.TokenKind.TheVariants as kind
use Rattle.cc_lex.specs.declared.punct.Punct.TheVariants as the_punct
use Rattle.cc_tree.specs.Trees.{ExprTree, ExprTrees, no_exprs, more_exprs, TypeTree, type_name, TypeTrees, no_types, more_types, SpecTree, word, named, struct, enum, SpecTrees, no_specs, more_specs, MemberTree, members, MemberTrees, no_members, more_members, ConstantTree, constant, ConstantTrees, no_constants, more_constants, DeclTree, declared, nameless, pointer, array, function, grouped, DeclTrees, no_declarators, more_declarators}
use Rattle.cc_tree.specs.Views.{gathered, gathered_types, gathered_specs, gathered_members, gathered_constants, gathered_declarators}
use Rattle.cc_grammar.specs.Levels.{level}
use Rattle.cc_grammar.specs.Names.{Names}
use Rattle.cc_grammar.specs.Outline.{end, size}
use Rattle.cc_grammar.specs.Outlines as outlines
use Rattle.cc_grammar.specs.Classes.{next_is, skip, starts_spec}
use Rattle.cc_grammar.specs.Reading.{opposite}
use Rattle.cc_parse_laws.proofs.Spans.{Reads}
use Rattle.cc_parse_laws.proofs.Steps.{next_token, reads_next, reads_length}
use Rattle.cc_parse_laws.proofs.Lists.{Span, Others, Separated, Braced, Enclosed, Following, Repeated, Shorter}
use Rattle.cc_parse_laws.proofs.Peeks.{after, inside}
use Rattle.cc_parse_laws.proofs.Firsts.{inside_sinks, first_spec, first_specs, spec_not}
use Rattle.cc_parse_laws.proofs.Edges.{operand_shorter}
use Rattle.cc_parse_laws.proofs.Inner.{ReadsExpr, ReadsDeclarator}

-- ---- The items as a list

abbrev pub exprs : ExprTrees Spot → List (ExprTree Spot)
exprs no_exprs = []
exprs (more_exprs e es) = e ∷ exprs es

pub exprs_back : (es : ExprTrees Spot) → gathered (exprs es) ≡ es
exprs_back no_exprs = refl
exprs_back (more_exprs e es) = ap (more_exprs e) (exprs_back es)

abbrev pub types : TypeTrees Spot → List (TypeTree Spot)
types no_types = []
types (more_types t ts) = t ∷ types ts

pub types_back : (ts : TypeTrees Spot) → gathered_types (types ts) ≡ ts
types_back no_types = refl
types_back (more_types t ts) = ap (more_types t) (types_back ts)

abbrev pub specs : SpecTrees Spot → List (SpecTree Spot)
specs no_specs = []
specs (more_specs s ss) = s ∷ specs ss

pub specs_back : (ss : SpecTrees Spot) → gathered_specs (specs ss) ≡ ss
specs_back no_specs = refl
specs_back (more_specs s ss) = ap (more_specs s) (specs_back ss)

abbrev pub lines : MemberTrees Spot → List (MemberTree Spot)
lines no_members = []
lines (more_members m ms) = m ∷ lines ms

pub lines_back : (ms : MemberTrees Spot) → gathered_members (lines ms) ≡ ms
lines_back no_members = refl
lines_back (more_members m ms) = ap (more_members m) (lines_back ms)

abbrev pub constants : ConstantTrees Spot → List (ConstantTree Spot)
constants no_constants = []
constants (more_constants c cs) = c ∷ constants cs

pub constants_back : (cs : ConstantTrees Spot) → gathered_constants (constants cs) ≡ cs
constants_back no_constants = refl
constants_back (more_constants c cs) = ap (more_constants c) (constants_back cs)

abbrev pub declarators : DeclTrees Spot → List (DeclTree Spot)
declarators no_declarators = []
declarators (more_declarators f fs) = f ∷ declarators fs

pub declarators_back : (fs : DeclTrees Spot) → gathered_declarators (declarators fs) ≡ fs
declarators_back no_declarators = refl
declarators_back (more_declarators f fs) = ap (more_declarators f) (declarators_back fs)

-- another line comes before the brace
abbrev pub goes_on_lines : List Token → Bool
goes_on_lines ts = opposite (next_is the_punct.RightBrace ts)

module _ (names : Names) (d : ℕ) where
  -- ---- What the items are read of

  abbrev pub ArgumentSpan : Span (ExprTree Spot)
  ArgumentSpan e ts r = (2 ≤ level e) × ReadsExpr names d e ts r

  abbrev pub ParameterSpan : Span (TypeTree Spot)
  ParameterSpan t ts r = Reads (outlines.parameter names t) d ts r

  abbrev pub SpecSpan : Span (SpecTree Spot)
  SpecSpan q ts r = Reads (outlines.spec names q) d ts r

  abbrev pub LineSpan : Span (MemberTree Spot)
  LineSpan m ts r = Reads (outlines.member_line names m) d ts r

  abbrev pub ConstantSpan : Span (ConstantTree Spot)
  ConstantSpan c ts r = Reads (outlines.constant_of names c) d ts r

  abbrev pub NamedSpan : Span (DeclTree Spot)
  NamedSpan f ts r = (outlines.is_named f ≡ true) × ReadsDeclarator names d f ts r

  -- ---- With commas between them

  argument_others : (es : ExprTrees Spot) (ts r : List Token) → Reads (outlines.more_arguments names es) d ts r → Others ArgumentSpan (exprs es) ts r
  argument_others no_exprs ts r y = y
  argument_others (more_exprs e es) ts r y =
      let t = next_token (Unit {0}) (kind.Punct the_punct.Comma) None (after (outlines.more_arguments names (more_exprs e es))) d ts r y in
      let comma = reads_next (Unit {0}) the_punct.Comma None (after (outlines.more_arguments names (more_exprs e es))) d ts r y in
      (t.after.0, comma, (t.after.1, t.after.2), argument_others es t.after.0 r (subst (Reads (outlines.more_arguments names es) d t.after.0) t.after.3.3 t.after.3.2))

  pub argument_list : (e : ExprTree Spot) (es : ExprTrees Spot) (ts r : List Token) → Reads (outlines.arguments names (more_exprs e es)) d ts r → Separated ArgumentSpan (e ∷ exprs es) ts r
  argument_list e es ts r y = (y.0, (y.1, y.2), argument_others es y.0 r (subst (Reads (outlines.more_arguments names es) d y.0) y.3.3 y.3.2))

  parameter_others : (us : TypeTrees Spot) (ts r : List Token) → Reads (outlines.more_parameters names us) d ts r → Others ParameterSpan (types us) ts r
  parameter_others no_types ts r y = y
  parameter_others (more_types u us) ts r y =
      let t = next_token (Unit {0}) (kind.Punct the_punct.Comma) None (after (outlines.more_parameters names (more_types u us))) d ts r y in
      let comma = reads_next (Unit {0}) the_punct.Comma None (after (outlines.more_parameters names (more_types u us))) d ts r y in
      (t.after.0, comma, t.after.2, parameter_others us t.after.0 r (subst (Reads (outlines.more_parameters names us) d t.after.0) t.after.3.3 t.after.3.2))

  pub parameter_list : (u : TypeTree Spot) (us : TypeTrees Spot) (ts r : List Token) → Reads (outlines.parameters names (more_types u us)) d ts r → Separated ParameterSpan (u ∷ types us) ts r
  parameter_list u us ts r y = (y.0, y.2, parameter_others us y.0 r (subst (Reads (outlines.more_parameters names us) d y.0) y.3.3 y.3.2))

  named_others : (fs : DeclTrees Spot) (ts r : List Token) → Reads (outlines.more_of_them names fs) d ts r → Others NamedSpan (declarators fs) ts r
  named_others no_declarators ts r y = y
  named_others (more_declarators f fs) ts r y =
      let t = next_token (Unit {0}) (kind.Punct the_punct.Comma) None (after (outlines.more_of_them names (more_declarators f fs))) d ts r y in
      let comma = reads_next (Unit {0}) the_punct.Comma None (after (outlines.more_of_them names (more_declarators f fs))) d ts r y in
      (t.after.0, comma, (t.after.1, t.after.2), named_others fs t.after.0 r (subst (Reads (outlines.more_of_them names fs) d t.after.0) t.after.3.3 t.after.3.2))

  pub named_list : (f : DeclTree Spot) (fs : DeclTrees Spot) (ts r : List Token) → Reads (outlines.declarators names (more_declarators f fs)) d ts r → Separated NamedSpan (f ∷ declarators fs) ts r
  named_list f fs ts r y = (y.0, (y.1, y.2), named_others fs y.0 r (subst (Reads (outlines.more_of_them names fs) d y.0) y.3.3 y.3.2))

  constant_others : (cs : ConstantTrees Spot) (ts r : List Token) → Reads (outlines.more_constants_of names cs) d ts r → Others ConstantSpan (constants cs) ts r
  constant_others no_constants ts r y = y
  constant_others (more_constants c cs) ts r y =
      let t = next_token (Unit {0}) (kind.Punct the_punct.Comma) None (after (outlines.more_constants_of names (more_constants c cs))) d ts r y in
      let comma = reads_next (Unit {0}) the_punct.Comma None (after (outlines.more_constants_of names (more_constants c cs))) d ts r y in
      (t.after.0, comma, t.after.2, constant_others cs t.after.0 r (subst (Reads (outlines.more_constants_of names cs) d t.after.0) t.after.3.3 t.after.3.2))

  -- the end of a list of constants
  constant_end : (c : ConstantTree Spot) (cs : ConstantTrees Spot) (trailing : Bool) (ts m q r : List Token) → ConstantSpan c ts m → Others ConstantSpan (constants cs) m q
      → Reads (outlines.within (outlines.trailing_comma trailing) (outlines.punct the_punct.RightBrace end)) d q r → Enclosed ConstantSpan (c ∷ constants cs) trailing ts r
  constant_end c cs true ts m q r here others y =
      let brace : Reads (outlines.punct the_punct.RightBrace end) d y.0 r = y.3 in
      let last : Reads (outlines.punct the_punct.Comma end) d q y.0 = y.2 in
      let t = next_token (Unit {0}) (kind.Punct the_punct.Comma) None end d q y.0 last in
      let at : Reads (outlines.punct the_punct.RightBrace end) d (skip q) r = subst (λ us. Reads (outlines.punct the_punct.RightBrace end) d us r) (sym t.after) brace in
      let u = next_token (Unit {0}) (kind.Punct the_punct.RightBrace) None end d (skip q) r at in
      (q, (m, here, others), reads_next (Unit {0}) the_punct.Comma None end d q y.0 last, reads_next (Unit {0}) the_punct.RightBrace None end d (skip q) r at, u.after)
  constant_end c cs false ts m q r here others y =
      let at : Reads (outlines.punct the_punct.RightBrace end) d q r = subst (λ us. Reads (outlines.punct the_punct.RightBrace end) d us r) (sym y.2) y.3 in
      let u = next_token (Unit {0}) (kind.Punct the_punct.RightBrace) None end d q r at in
      (q, (m, here, others), reads_next (Unit {0}) the_punct.RightBrace None end d q r at, u.after)

  pub constant_list : (c : ConstantTree Spot) (cs : ConstantTrees Spot) (trailing : Bool) (ts r : List Token) → Reads (outlines.constant_list names (more_constants c cs) trailing) (suc d) ts r → Braced ConstantSpan (c ∷ constants cs) trailing ts r
  constant_list c cs trailing ts r y =
      let list = inside (outlines.constant_list names (more_constants c cs) trailing) in
      let t = next_token (Unit {0}) (kind.Punct the_punct.LeftBrace) None (after list) d ts y.0 y.2 in
      let others = constant_others cs t.after.0 t.after.3.0 t.after.3.2 in (
        reads_next (Unit {0}) the_punct.LeftBrace None (after list) d ts y.0 y.2,
        subst (Enclosed ConstantSpan (c ∷ constants cs) trailing (skip ts)) y.3 (constant_end c cs trailing (skip ts) t.after.0 t.after.3.0 y.0 t.after.2 others t.after.3.3),
      )

  -- ---- As long as another begins

  spec_following : (ss : SpecTrees Spot) (ts r : List Token) → Reads (outlines.specs names ss) d ts r → Following (starts_spec names) SpecSpan (specs ss) ts r
  spec_following no_specs ts r y = y
  spec_following (more_specs q ss) ts r y = (y.0, first_spec names q d ts y.0 y.2, y.2, spec_following ss y.0 r (subst (Reads (outlines.specs names ss) d y.0) y.3.3 y.3.2))

  pub spec_list : (q : SpecTree Spot) (ss : SpecTrees Spot) (ts r : List Token) → Reads (outlines.specs names (more_specs q ss)) d ts r → Repeated (starts_spec names) SpecSpan (q ∷ specs ss) ts r
  spec_list q ss ts r y = (y.0, y.2, spec_following ss y.0 r (subst (Reads (outlines.specs names ss) d y.0) y.3.3 y.3.2))

  pub first_line : (m : MemberTree Spot) (ts r : List Token) → Reads (outlines.member_line names m) d ts r → starts_spec names ts ≡ true
  first_line (members n ss fs) ts r y = let x = first_specs names ss n d ts y.2.0 y.1 y.2.2 in x.0

  line_goes_on : (m : MemberTree Spot) (ts r : List Token) → Reads (outlines.member_line names m) d ts r → goes_on_lines ts ≡ true
  line_goes_on m ts r y = ap opposite (spec_not names the_punct.RightBrace ts (first_line m ts r y))

  line_following : (ms : MemberTrees Spot) (ts r : List Token) → Reads (outlines.member_lines names ms) d ts r → Following goes_on_lines LineSpan (lines ms) ts r
  line_following no_members ts r y = y
  line_following (more_members m ms) ts r y = (y.0, line_goes_on m ts y.0 y.2, y.2, line_following ms y.0 r (subst (Reads (outlines.member_lines names ms) d y.0) y.3.3 y.3.2))

  pub line_list : (m : MemberTree Spot) (ms : MemberTrees Spot) (ts q r : List Token) → Reads (outlines.member_line names m) d ts q → Reads (outlines.member_lines names ms) d q r → Repeated goes_on_lines LineSpan (m ∷ lines ms) ts r
  line_list m ms ts q r y z = (q, y, line_following ms q r z)

  -- ---- Each item has a token

  pub argument_shorter : Shorter ArgumentSpan
  argument_shorter e ts r y = operand_shorter names e d ts r y.1

  spec_size : (q : SpecTree Spot) → 1 ≤ size (outlines.spec names q)
  spec_size (word n w) = omega arith
  spec_size (named n x) = omega arith
  spec_size (struct n tag ms) = omega arith
  spec_size (enum n tag cs trailing) = omega arith

  specs_size : (ss : SpecTrees Spot) (n : Spot) → outlines.BeginAt ss n → 1 ≤ size (outlines.specs names ss)
  specs_size no_specs n b = absurd b
  specs_size (more_specs q ss) n b = omega (arith, spec_size q)

  pub parameter_shorter : Shorter ParameterSpan
  parameter_shorter (type_name n ss f) ts r y = omega (arith, reads_length (outlines.parameter names (type_name n ss f)) d ts r y, specs_size ss n y.1)

  pub spec_shorter : Shorter SpecSpan
  spec_shorter q ts r y = omega (arith, reads_length (outlines.spec names q) d ts r y, spec_size q)

  pub line_shorter : Shorter LineSpan
  line_shorter (members n ss fs) ts r y = omega (arith, reads_length (outlines.member_line names (members n ss fs)) d ts r y)

  pub constant_shorter : Shorter ConstantSpan
  constant_shorter (constant n x e) ts r y = omega (arith, reads_length (outlines.constant_of names (constant n x e)) d ts r y)

  named_size : (f : DeclTree Spot) → outlines.is_named f ≡ true → 1 ≤ size (outlines.declarator names f)
  named_size (declared n x) h = omega arith
  named_size nameless h = absurd cc
  named_size (pointer n c f) h = omega arith
  named_size (array n f e) h = omega arith
  named_size (function n f ps) h = omega arith
  named_size (grouped n f) h = omega arith

  pub named_shorter : Shorter NamedSpan
  named_shorter f ts r y = omega (arith, reads_length (outlines.declarator names f) d ts r (inside_sinks (outlines.is_written f) (outlines.declarator names f) d ts r y.1), named_size f y.0)
