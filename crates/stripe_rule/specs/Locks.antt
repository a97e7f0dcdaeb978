-- The words of the table and its locks: a lock for each stripe, then the desk's, then the clock and the halt word.
use Rattle.std.specs.Prelude.{ℕ, ◌+◌, ◌%◌, nat_lt, if◌then◌else◌}
use Rattle.tac_ir.specs.declared.run.Op.{Op}
use Rattle.tac_ir.specs.Layout.{memory_words}
use Rattle.stripe_rule.specs.declared.plan.Terms.{Terms}

-- the lock of a word: its stripe's; past the memory there is none, and so it is past the last lock
abbrev pub lock_at : Terms → ℕ → ℕ
lock_at p w = if nat_lt w (memory_words p.md.size) then w % p.stripes else p.stripes + 1

-- the lock of an event, past the last for one that needs none
abbrev pub lock_of : Terms → Op → ℕ
lock_of p (Op.Read r w) = lock_at p w
lock_of p (Op.Write d w v) = lock_at p w
lock_of p (Op.New site count) = p.stripes
lock_of p (Op.Free w) = p.stripes
lock_of p Op.In = p.stripes
lock_of p Op.Left = p.stripes
lock_of p op = p.stripes + 1
