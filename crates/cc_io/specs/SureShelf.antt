-- The files of a shelf in memory, and what a contract sees of it.
use Rattle.std.specs.Prelude.{ℕ, List, map, String, Vec, string_bytes}
use Rattle.std.specs.declared.alloc.Global.{Global}
use Rattle.std.specs.FinMap.{from_entries}
use Rattle.cc_io.specs.Shelf.{Files}
use Rattle.cc_io.specs.declared.sure.SureShelf.{SureShelf}

-- the bytes of an entry's name, and of its file
abbrev pub file_of : String Global × Vec ℕ Global → List ℕ × List ℕ
file_of e = (string_bytes e.0, e.1.items)

abbrev pub files_of : List (String Global × Vec ℕ Global) → Files
files_of entries = from_entries (map file_of entries)

-- the files, and how often a name was not held and a file was too long
pub record Stock : Type 0 where
  pub files : Files
  pub misses : ℕ
  pub longs : ℕ

-- what a contract sees of a shelf in memory
abbrev pub stock_of : SureShelf → Stock
stock_of s = record { files = files_of s.files.entries; misses = s.misses; longs = s.longs }
