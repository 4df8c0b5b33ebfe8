-- The compiler's answer as the model's: document 01's slots, product count and records, or its refusal's number and detail. Definitions only.
use Rattle.std.specs.Prelude.{ℕ, ◌+◌, ◌*◌, Result, Ok, Err}
use Rattle.model.specs.Compile.{Compiled, written, refusal, Compiler, plain, compact, sweep}
use Rattle.slots.specs.declared.Filled.{Filled}
use Rattle.refusal.specs.Named.{number_of, detail_of}
use Rattle.refusal.specs.declared.Refusal.{Refusal}
use Rattle.compiler.specs.declared.Written.{Written}
use Rattle.compiler.specs.declared.Method.{Method}
use Rattle.compiler.specs.declared.Method.TheVariants.{Plain, Compact, Sweep}

abbrev pub compiled_of : Result Written Refusal → Compiled
compiled_of (Ok w) = written w.slots w.products w.records
compiled_of (Err r) = refusal (number_of r) (detail_of r)

-- the model's compiler of each program
abbrev pub compiler_of : Method → Compiler
compiler_of Plain = plain
compiler_of Compact = compact
compiler_of Sweep = sweep

-- document 01's sum
abbrev pub records_of : ℕ → Filled → ℕ
records_of n r = 1 + 2 * (r.slots + 2 * n) + r.products + n + r.above
