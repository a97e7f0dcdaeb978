-- What reading bytes as a module answers.
use Rattle.std.specs.Prelude.{◌≡◌, ◌<◌, ◌≤◌, ℕ, Bool, true, false, List, length, codes, nat_eq, Result, Ok, Err}
use Rattle.std.specs.List.{starts_with}
use Rattle.dfi_base.specs.Limits.{file_limit}
use Rattle.tac_ir.specs.Module.{Module}
use Rattle.line_format.specs.FirstFault.{IsAt}
use Rattle.module_text.specs.declared.fault.TextFault.{TextFault}
use Rattle.text_law.specs.IsText.{IsText}

-- a module whose text they are, or their first fault; want of memory is free
abbrev pub IsTold : List ℕ → Result Module TextFault → Type 0
IsTold bytes (Ok m) = IsText bytes m
IsTold bytes (Err (TextFault.At at)) = IsAt IsText bytes at
IsTold bytes (Err TextFault.Memory) = Unit {0}
IsTold bytes (Err TextFault.Long) = ⊥
IsTold bytes (Err (TextFault.Version found)) = ⊥

-- a text of the first version
abbrev pub is_old : List ℕ → Bool
is_old bytes = starts_with nat_eq bytes (codes "dfimod 1\n")

-- first what is too long, then what is of the first version, then the rest
pub record IsReading (bytes : List ℕ) (result : Result Module TextFault) : Type 0 where
  pub long : file_limit < length bytes → result ≡ Err TextFault.Long
  pub version : length bytes ≤ file_limit → is_old bytes ≡ true → result ≡ Err (TextFault.Version 1)
  pub other : length bytes ≤ file_limit → is_old bytes ≡ false → IsTold bytes result
