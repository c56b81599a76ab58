-- What a contract sees of a shelf in memory whose reads fail where a list says so.
use Rattle.std.specs.Prelude.{◌≡◌, ℕ, List, Bool, cond}
use Rattle.cc_io.specs.Count.{one_more}
use Rattle.cc_io.specs.Shelf.{Files}
use Rattle.cc_io.specs.SureShelf.{stock_of}
use Rattle.cc_io_memory.specs.Calls.{is_listed}
use Rattle.cc_io_memory.specs.declared.shelf.MemoryShelf.{MemoryShelf}

-- the files, the counts, how many reads there were, and the numbers of those that fail
pub record Deck : Type 0 where
  pub files : Files
  pub misses : ℕ
  pub longs : ℕ
  pub faults : ℕ
  pub calls : ℕ
  pub fails : List ℕ

abbrev pub deck_of : MemoryShelf → Deck
deck_of s =
    let stock = stock_of s.files in
    record { files = stock.files; misses = stock.misses; longs = stock.longs; faults = s.faults; calls = s.calls; fails = s.fails.items }

-- the next read is one of those that fail
abbrev pub is_due : Deck → Bool
is_due d = is_listed d.fails (one_more d.calls)

-- a read counts as one, and as a fault where it is one of those that fail
pub record AfterRead (old new : Deck) : Type 0 where
  pub calls : new.calls ≡ one_more old.calls
  pub faults : new.faults ≡ cond (is_due old) (one_more old.faults) old.faults
  pub fails : new.fails ≡ old.fails
