-- Key texts: how a fault names a place in the document.
use Rattle.std.specs.Prelude.{ℕ, List, ◌++◌, codes, decimal}

-- `array[i]`, where i counts from 0
abbrev pub item_key : List ℕ → ℕ → List ℕ
item_key array i = array ++ codes "[" ++ decimal i ++ codes "]"

-- `table.name`
abbrev pub member_key : List ℕ → List ℕ → List ℕ
member_key table name = table ++ codes "." ++ name
