-- Names of files that stand beside another file.
use Rattle.std.specs.Prelude.{◌≡◌, ◌≢◌, ◌⊎◌, ◌<◌, ◌≤◌, ◌-◌, ℕ, List, ◌++◌, length, take, slice_index}

-- the first n bytes of a path are what it has up to and with its last `/`
pub record EndsFolder (path : List ℕ) (n : ℕ) : Type 0 where
  pub within : n ≤ length path
  pub after_slash : (n ≡ 0) ⊎ (slice_index path (n - 1) ≡ 47)
  pub last : (k : ℕ) → n ≤ k → k < length path → slice_index path k ≢ 47

-- the folder of a path, with the `/` at its end; nothing where the path has no `/`
abbrev pub IsFolderOf : List ℕ → List ℕ → Type 0
IsFolderOf path folder = (n : ℕ) × EndsFolder path n × (folder ≡ take n path)

-- where a name is looked for beside a project's file: that file where it stands, each other name in its folder
abbrev pub IsBeside : (project folder name path : List ℕ) → Type 0
IsBeside project folder name path = ((name ≡ project) × (path ≡ name)) ⊎ ((name ≢ project) × (path ≡ folder ++ name))
