-- What reading the input of a request comes to.
use Rattle.std.specs.Prelude.{◌≡◌, ℕ, ◌<◌, List, [], Option, None, Some, IfSome, IsSomeAnd, length}
use Rattle.trips_outside.specs.Outside.{Holds}
use Rattle.trips_requests.specs.declared.loading.Loaded.{Loaded}
use Rattle.trips_requests.specs.declared.loading.Loaded.TheVariants.{Bytes}
use Rattle.trips_requests.specs.Table.{IsRead}
use Rattle.trips_answers.specs.Asks.{most_input_bytes}

-- what reading the input's file comes to; where none is named the input is empty
abbrev pub IsInputRead :
    Option (List ℕ) → (List ℕ → Option (List ℕ)) → Type 0 → Loaded → Type 0
IsInputRead None held rose loaded = loaded ≡ Bytes []
IsInputRead (Some name) held rose loaded = IsRead (held name) rose most_input_bytes loaded

-- the input is this, as far as it is told
abbrev pub HoldsInput : Option (List ℕ) → (List ℕ → Option (List ℕ)) → List ℕ → Type 0
HoldsInput None held bytes = bytes ≡ []
HoldsInput (Some name) held bytes = Holds (held name) bytes

-- an input that is named has too many bytes, as far as it is told
abbrev pub MayBeLarge : Option (List ℕ) → (List ℕ → Option (List ℕ)) → Type 0
MayBeLarge None held = ⊥
MayBeLarge (Some name) held = IfSome (held name) (λ bytes. most_input_bytes < length bytes)

-- and it is told to have too many
abbrev pub IsLarge : Option (List ℕ) → (List ℕ → Option (List ℕ)) → Type 0
IsLarge None held = ⊥
IsLarge (Some name) held = IsSomeAnd (held name) (λ bytes. most_input_bytes < length bytes)
