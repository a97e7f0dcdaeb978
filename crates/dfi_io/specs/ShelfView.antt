-- What contracts see of a shelf.
use Rattle.std.specs.Prelude.{ℕ, List, [], ◌∷◌, length, if◌then◌else◌, unwrap_or}
use Rattle.dfi_io.specs.Counted.{counted}
use Rattle.dfi_io.specs.Files.{Files, file_of}
use Rattle.dfi_io.specs.Loads.{load_fails, after_load}

-- what a shelf tells, its faults, and how many bytes its last load took
pub record ShelfView : Type 0 where
  pub told : Files
  pub faults : ℕ
  pub took : ℕ

-- a shelf with one more file, which stands before any other of its name
abbrev pub shelf_with_file : ShelfView → List ℕ → List ℕ → ShelfView
shelf_with_file shelf name bytes = record shelf { told = record shelf.told { files = (name, bytes) ∷ shelf.told.files } }

-- a shelf after a load of this name with this limit: a load that fails is a fault and takes nothing, and another takes the whole file
abbrev pub shelf_after_load : ShelfView → List ℕ → ℕ → ShelfView
shelf_after_load shelf name limit =
    let fails = load_fails shelf.told name in
    record {
      told = after_load limit shelf.told;
      faults = if fails then counted shelf.faults else shelf.faults;
      took = if fails then 0 else length (unwrap_or (file_of shelf.told.files name) []);
    }
