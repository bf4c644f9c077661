-- What holds of each raw token, of each constant of a header and of all that the passes may add holds of each token
-- of the program; and these are as few as there may be.
use Rattle.std.proofs.Common.{◌≡◌, ◌≤◌, ℕ, List, [], ◌∷◌, length, refl}
use Rattle.std.specs.Prelude.{Result, Ok, Err}
use Rattle.c_lex.specs.Lexes.{Tokens}
use Rattle.c_library.specs.declared.fault.LibraryFault.{LibraryFault}
use Rattle.c_pre.specs.declared.fault.PreFault.{PreFault}
use Rattle.c_pre.specs.Outputs.{◌>>=◌, lifted}
use Rattle.c_pre.specs.Passes.{passed}
use Rattle.c_pre.specs.Programs.{directed, program}
use Rattle.c_pre.proofs.Kept.{Fact, EachToken, Allows}
use Rattle.c_pre.proofs.KeptLines.{HeadersHave, directed_keeps}
use Rattle.c_pre.proofs.PassFacts.{passed_keeps, passed_few}

-- what the passes give is no fault of theirs
lifted_ok : (m : Result Tokens LibraryFault) (ts : Tokens) → lifted m ≡ Ok ts → m ≡ Ok ts
lifted_ok (Ok us) ts e = cc
lifted_ok (Err f) ts e = absurd (cc)

-- the tokens behind directives, from which the program's come
record Prepares (most : ℕ) (raw ts : Tokens) : Type 0 where
  tokens : Tokens
  directs : directed most raw ≡ Ok tokens
  prepares : passed most tokens ≡ Ok ts

prepares_by : (most : ℕ) (raw ts : Tokens) (m : Result Tokens PreFault) → directed most raw ≡ m
    → (m >>= λ us. lifted (passed most us)) ≡ Ok ts → Prepares most raw ts
prepares_by most raw ts (Ok us) d e =
    record { tokens = us; directs = d; prepares = lifted_ok (passed most us) ts e }
prepares_by most raw ts (Err f) d e = absurd (cc)

prepares : (most : ℕ) (raw ts : Tokens) → program most raw ≡ Ok ts → Prepares most raw ts
prepares most raw ts e = prepares_by most raw ts (directed most raw) refl e

-- what holds of each raw token, of each constant of a header and of all that the passes may add holds of each token
-- of the program
pub program_keeps : (P : Fact) (most : ℕ) (raw ts : Tokens) → Allows P → HeadersHave P → EachToken P raw
    → program most raw ≡ Ok ts → EachToken P ts
program_keeps P most raw ts a c k e =
    let p = prepares most raw ts e in
    passed_keeps P most p.tokens ts a (directed_keeps P most raw p.tokens c k p.directs).forms p.prepares

-- a program has as few tokens as there may be
pub program_few : (most : ℕ) (raw ts : Tokens) → program most raw ≡ Ok ts → length ts ≤ most
program_few most raw ts e = let p = prepares most raw ts e in passed_few most p.tokens ts p.prepares
