-- Where the parts of a memory begin, in words: reserved words, the globals, the heap, and the stacks up to its end. There are a small and a
-- large memory.
use Rattle.std.specs.Prelude.{ℕ}

abbrev pub globals_from : ℕ
globals_from = 16

abbrev pub heap_from : ℕ
heap_from = 8192

abbrev pub small_stack_from : ℕ
small_stack_from = 32768

abbrev pub small_memory_words : ℕ
small_memory_words = 65536

abbrev pub large_stack_from : ℕ
large_stack_from = 524288

abbrev pub large_memory_words : ℕ
large_memory_words = 1048576
