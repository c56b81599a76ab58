-- The words that C17 lists: the 44 keywords (6.4.1), the 46 punctuators without `#` and `##`, and the 5 digraphs without `%:%:`
-- (6.4.6).
use Rattle.std.specs.Prelude.{ℕ, List, [], ◌∷◌, codes}
use Rattle.cc_lex.specs.declared.keyword.Keyword.{Keyword}
use Rattle.cc_lex.specs.declared.keyword.Keyword.TheVariants as word
use Rattle.cc_lex.specs.declared.punct.Punct.{Punct}
use Rattle.cc_lex.specs.declared.punct.Punct.TheVariants as punct

-- each keyword with its spelling
abbrev pub keyword_table : List (List ℕ × Keyword)
keyword_table =
    (codes "auto", word.Auto) ∷
    (codes "break", word.Break) ∷
    (codes "case", word.Case) ∷
    (codes "char", word.Char) ∷
    (codes "const", word.Const) ∷
    (codes "continue", word.Continue) ∷
    (codes "default", word.Default) ∷
    (codes "do", word.Do) ∷
    (codes "double", word.Double) ∷
    (codes "else", word.Else) ∷
    (codes "enum", word.Enum) ∷
    (codes "extern", word.Extern) ∷
    (codes "float", word.Float) ∷
    (codes "for", word.For) ∷
    (codes "goto", word.Goto) ∷
    (codes "if", word.If) ∷
    (codes "inline", word.Inline) ∷
    (codes "int", word.Int) ∷
    (codes "long", word.Long) ∷
    (codes "register", word.Register) ∷
    (codes "restrict", word.Restrict) ∷
    (codes "return", word.Return) ∷
    (codes "short", word.Short) ∷
    (codes "signed", word.Signed) ∷
    (codes "sizeof", word.Sizeof) ∷
    (codes "static", word.Static) ∷
    (codes "struct", word.Struct) ∷
    (codes "switch", word.Switch) ∷
    (codes "typedef", word.Typedef) ∷
    (codes "union", word.Union) ∷
    (codes "unsigned", word.Unsigned) ∷
    (codes "void", word.Void) ∷
    (codes "volatile", word.Volatile) ∷
    (codes "while", word.While) ∷
    (codes "_Alignas", word.Alignas) ∷
    (codes "_Alignof", word.Alignof) ∷
    (codes "_Atomic", word.Atomic) ∷
    (codes "_Bool", word.Bool) ∷
    (codes "_Complex", word.Complex) ∷
    (codes "_Generic", word.Generic) ∷
    (codes "_Imaginary", word.Imaginary) ∷
    (codes "_Noreturn", word.Noreturn) ∷
    (codes "_Static_assert", word.StaticAssert) ∷
    (codes "_Thread_local", word.ThreadLocal) ∷
    []

-- each punctuator with its spelling, a longer one before a shorter one
abbrev pub punct_table : List (List ℕ × Punct)
punct_table =
    (codes "...", punct.Ellipsis) ∷
    (codes "<<=", punct.ShiftLeftEqual) ∷
    (codes ">>=", punct.ShiftRightEqual) ∷
    (codes "->", punct.Arrow) ∷
    (codes "++", punct.PlusPlus) ∷
    (codes "--", punct.MinusMinus) ∷
    (codes "<<", punct.ShiftLeft) ∷
    (codes ">>", punct.ShiftRight) ∷
    (codes "<=", punct.LessEqual) ∷
    (codes ">=", punct.GreaterEqual) ∷
    (codes "==", punct.EqualEqual) ∷
    (codes "!=", punct.NotEqual) ∷
    (codes "&&", punct.AndAnd) ∷
    (codes "||", punct.OrOr) ∷
    (codes "*=", punct.StarEqual) ∷
    (codes "/=", punct.SlashEqual) ∷
    (codes "%=", punct.PercentEqual) ∷
    (codes "+=", punct.PlusEqual) ∷
    (codes "-=", punct.MinusEqual) ∷
    (codes "&=", punct.AndEqual) ∷
    (codes "^=", punct.CaretEqual) ∷
    (codes "|=", punct.OrEqual) ∷
    (codes "[", punct.LeftBracket) ∷
    (codes "]", punct.RightBracket) ∷
    (codes "(", punct.LeftParen) ∷
    (codes ")", punct.RightParen) ∷
    (codes "{", punct.LeftBrace) ∷
    (codes "}", punct.RightBrace) ∷
    (codes ".", punct.Dot) ∷
    (codes "&", punct.And) ∷
    (codes "*", punct.Star) ∷
    (codes "+", punct.Plus) ∷
    (codes "-", punct.Minus) ∷
    (codes "~", punct.Tilde) ∷
    (codes "!", punct.Not) ∷
    (codes "/", punct.Slash) ∷
    (codes "%", punct.Percent) ∷
    (codes "<", punct.Less) ∷
    (codes ">", punct.Greater) ∷
    (codes "^", punct.Caret) ∷
    (codes "|", punct.Or) ∷
    (codes "?", punct.Question) ∷
    (codes ":", punct.Colon) ∷
    (codes ";", punct.Semicolon) ∷
    (codes "=", punct.Equal) ∷
    (codes ",", punct.Comma) ∷
    []

-- the digraphs
abbrev pub digraph_table : List (List ℕ)
digraph_table = codes "<:" ∷ codes ":>" ∷ codes "<%" ∷ codes "%>" ∷ codes "%:" ∷ []
