-- The limits of the product, each under its name.
use Rattle.std.specs.Prelude.{ℕ}

-- Sources.

-- the tokens of a source
abbrev pub token_limit : ℕ
token_limit = 200000

-- how far the nesting counter of the grammar may rise
abbrev pub nesting_limit : ℕ
nesting_limit = 200

-- the functions of a program
abbrev pub function_limit : ℕ
function_limit = 256

-- the words of a type
abbrev pub type_limit : ℕ
type_limit = 24576

-- the words of all globals
abbrev pub global_limit : ℕ
global_limit = 8176

-- the words of a frame
abbrev pub frame_limit : ℕ
frame_limit = 4096

-- the branches of a `par` or a fork, at least and at most
abbrev pub least_branches : ℕ
least_branches = 2

abbrev pub branch_limit : ℕ
branch_limit = 15

-- Code and modules.

-- the points of all functions
abbrev pub point_limit : ℕ
point_limit = 16384

abbrev pub definition_limit : ℕ
definition_limit = 4096

-- the nodes that the analysis tells apart
abbrev pub node_limit : ℕ
node_limit = 16384

-- the temporaries of all functions
abbrev pub temporary_limit : ℕ
temporary_limit = 32768

-- the facts of definitions that reach
abbrev pub fact_limit : ℕ
fact_limit = 32768

-- Files, in bytes.

-- a source or a module
abbrev pub file_limit : ℕ
file_limit = 67108864

-- a list of numbers: an input, or the names of a run
abbrev pub list_limit : ℕ
list_limit = 16777216

-- Runs.

-- the entries of a run
abbrev pub budget_limit : ℕ
budget_limit = 4000000

abbrev pub default_budget : ℕ
default_budget = 1000000

-- the locks that share the memory
abbrev pub stripe_limit : ℕ
stripe_limit = 64

abbrev pub default_stripes : ℕ
default_stripes = 16

-- the threads of the machine that run a program
abbrev pub worker_limit : ℕ
worker_limit = 64

abbrev pub default_workers : ℕ
default_workers = 4

-- how deep a thread may be
abbrev pub depth_limit : ℕ
depth_limit = 14
