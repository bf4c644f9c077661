-- Worked rows of the definitions, by evaluation.
use Rattle.std.proofs.Common.{◌≡◌, ℕ, Bool, true, false, List, [], ◌∷◌, refl, lit<}
use Rattle.trips_isa.specs.declared.form.Role.{Role}
use Rattle.trips_isa.specs.declared.form.Role.TheVariants.{Reading, Free, Nothing, One}
use Rattle.trips_isa.specs.declared.block.Sense.{Sense}
use Rattle.trips_isa.specs.declared.block.Sense.TheVariants.{Always, OnTrue, OnFalse}
use Rattle.trips_isa.specs.declared.node.Node.{Node}
use Rattle.block_cases.specs.Cases.{cases, is_case, token, tokens, deepest, GetsTwo, GetsNone}

abbrev node : ℕ → Role → Sense → ℕ → ℕ → Node
node s r e a b = record { slot = s; role = r; sense = e; first = a; second = b; below = 0 }

-- a read chooses between two constants for a write
abbrev pair : List Node
pair = node 449 Reading Always 0 700 ∷ node 0 One Always 257 258 ∷ node 1 Free
    OnTrue 384 700 ∷ node 2 Free OnFalse 384 700 ∷ node 3 Free Always 448 700 ∷ []

pub pair_cases : cases pair ≡ 2
unfolding deepest
pair_cases = refl

-- both constants come in one case
abbrev twice : List Node
twice = node 449 Reading Always 0 700 ∷ node 0 One Always 257 700 ∷ node 1 Free
    OnTrue 384 700 ∷ node 2 Free Always 384 700 ∷ node 3 Free Always 448 700 ∷ []

pub two_tokens : GetsTwo twice 384
unfolding deepest
two_tokens = (
  false ∷ true ∷ false ∷ false ∷ false ∷ [],
  record { size = refl; bits = refl },
  lit< tt,
)

-- no constant comes where the read gives an even word
abbrev missing : List Node
missing = node 449 Reading Always 257 700 ∷ node 1 Free OnTrue 384 700 ∷ node 3 Free
    Always 448 700 ∷ []

pub no_token : GetsNone missing 384
unfolding deepest
no_token = (false ∷ false ∷ false ∷ [], record { size = refl; bits = refl }, refl)

-- an instruction that names one spot twice, and never fires: no spot gets two
abbrev twin : List Node
twin = node 0 Nothing Always 257 700 ∷ node 1 Free OnTrue 384 384 ∷ node 2 Free
    Always 384 700 ∷ node 3 Free Always 448 700 ∷ []

pub twin_cases : cases twin ≡ 2
unfolding deepest
twin_cases = refl

pub twin_tokens : (v : Bool) → tokens twin (token twin (v ∷ false ∷ false ∷ false ∷ [])) 384 ≡ 1
unfolding deepest
twin_tokens true = refl
twin_tokens false = refl

-- both bits of a null chooser count
pub pair_both : (v : Bool) → is_case pair (false ∷ v ∷ false ∷ false ∷ false ∷ []) ≡ true
unfolding deepest
pair_both true = refl
pair_both false = refl

-- a read that only feeds the test has no bit
pub pair_read : is_case pair (true ∷ false ∷ false ∷ false ∷ false ∷ []) ≡ false
unfolding deepest
pair_read = refl
