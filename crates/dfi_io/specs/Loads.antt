-- What a load answers, and what it leaves.
use Rattle.std.specs.Prelude.{ℕ, ◌==◌, Bool, ◌||◌, if◌then◌else◌, nat_lt, List, [], length, unwrap_or, is_none, Result, Ok, Err}
use Rattle.std.specs.List.{list_any}
use Rattle.dfi_io.specs.Counted.{counted}
use Rattle.dfi_io.specs.Files.{Files, file_of}
use Rattle.dfi_io.specs.declared.fault.LoadFault.{LoadFault}
use Rattle.dfi_io.specs.declared.fault.LoadFault.TheVariants.{Failed, Long}

-- whether the next load fails: its number is in the plan, or the name is no file's
abbrev pub load_fails : Files → List ℕ → Bool
load_fails f name = list_any (λ number. number == f.loads) f.plan || is_none (file_of f.files name)

-- what the next load answers: that it fails, or that the file is longer than the limit, or the file's bytes
abbrev pub load_of : Files → List ℕ → ℕ → Result (List ℕ) LoadFault
load_of f name limit =
    let bytes = unwrap_or (file_of f.files name) [] in
    if load_fails f name then Err Failed else (if nat_lt limit (length bytes) then Err Long else Ok bytes)

-- one load with this limit counted, and all else as it was
abbrev pub after_load : ℕ → Files → Files
after_load limit f = record f { loads = counted f.loads; limit = limit }
