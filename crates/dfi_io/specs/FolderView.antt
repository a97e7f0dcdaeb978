-- What contracts see of a folder.
use Rattle.std.specs.Prelude.{ℕ}

-- the faults of a folder, and how many bytes its last load took
pub record FolderView : Type 0 where
  pub faults : ℕ
  pub took : ℕ
