-- What the readers of expressions, specifiers and declarators read is there, at each depth.
use Rattle.std.proofs.Common.{ℕ, zero, suc}
use Rattle.cc_grammar.specs.Names.{Names}
use Rattle.cc_grammar.specs.Reading.{Inner, no_inner, opened, readers}
use Rattle.cc_parse_laws.proofs.Inner.{SoundInner}
use Rattle.cc_parse_laws.proofs.SoundDeclarators.{nothing_sound, declarator_sound}
use Rattle.cc_parse_laws.proofs.SoundExpressions.{expression_sound}
use Rattle.cc_parse_laws.proofs.SoundLists.{member_list_sound, constant_list_sound, no_member_list, no_constant_list}
use Rattle.cc_parse_laws.proofs.SoundSpecifiers.{specs_sound}

-- at the greatest depth, where nothing that counts is read
pub flat_sound : (names : Names) → SoundInner names (opened names no_inner 0) 0
flat_sound names = record {
  expr = λ least l ts x e. absurd cc;
  specs = specs_sound names no_inner 0 (no_member_list names) (no_constant_list names);
  declarator = λ mode ts x e. let s = nothing_sound names no_inner 0 mode ts x e in (s.0, s.2);
}

-- one less deep
pub opened_sound : (names : Names) (inner : Inner) (d : ℕ) → SoundInner names inner d → SoundInner names (opened names inner (suc d)) (suc d)
opened_sound names inner d good = record {
  expr = expression_sound names inner d good;
  specs = specs_sound names inner (suc d) (member_list_sound names inner d good) (constant_list_sound names inner d good);
  declarator = declarator_sound names inner d good;
}

pub readers_sound : (names : Names) (d : ℕ) → SoundInner names (readers names d) d
readers_sound names zero = flat_sound names
readers_sound names (suc d) = opened_sound names (readers names d) d (readers_sound names d)
