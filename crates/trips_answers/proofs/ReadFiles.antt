-- What reading a file and an input comes to, where what they hold is told.
use Rattle.std.proofs.Common.{◌≡◌, ℕ, ◌<◌, ◌≤◌, List, Option, None, Some, IfSome}
use Rattle.std.proofs.Common.{IsSomeAnd, length, refl, sym, ◌∙◌, ap, arith}
use Rattle.trips_outside.specs.Outside.{Holds}
use Rattle.trips_requests.specs.declared.loading.Loaded.{Loaded}
use Rattle.trips_requests.specs.declared.loading.Loaded.TheVariants.{Fault, TooLarge, Bytes}
use Rattle.trips_requests.specs.Table.{IsRead}
use Rattle.trips_answers.specs.Read.{IsInputRead, IsLarge}
use Rattle.trips_answers.specs.Asks.{IsInput, most_input_bytes}

-- bytes that were read are those that are told
pub told_text : (told : Option (List ℕ)) (text read : List ℕ) → told ≡ Some text → Holds told read
    → read ≡ text
told_text None text read e h = absurd (cc)
told_text (Some bytes) text read e h = let same : bytes ≡ text = cc in h ∙ same

-- bytes within the limit are not told to be too many
pub told_few : (told : Option (List ℕ)) (text : List ℕ) (limit : ℕ) → told ≡ Some text
    → length text ≤ limit → IfSome told (λ bytes. limit < length bytes) → ⊥
told_few None text limit e few large = absurd (cc)
told_few (Some bytes) text limit e few large =
    let same : text ≡ bytes = cc in
    let m : length text ≡ length bytes = ap length same in absurd (omega (arith, large, m))

-- a file that is told is read, where nothing fails
pub file_read : (told : Option (List ℕ)) (rose : Type 0) (limit : ℕ) (loaded : Loaded)
    (bytes : List ℕ) → IsRead told rose limit loaded → told ≡ Some bytes → length bytes ≤ limit
    → (rose → ⊥) → loaded ≡ Bytes bytes
file_read told rose limit Fault bytes h t few r = absurd (r h)
file_read told rose limit TooLarge bytes h t few r = absurd (told_few told bytes limit t few h)
file_read told rose limit (Bytes read) bytes h t few r =
    ap (λ (x : List ℕ). Bytes x) (told_text told bytes read t h.0)

-- and so is an input
pub input_read : (input : Option (List ℕ)) (held : List ℕ → Option (List ℕ)) (rose : Type 0)
    (loaded : Loaded) (bytes : List ℕ) → IsInputRead input held rose loaded
    → IsInput input held bytes → length bytes ≤ most_input_bytes → (rose → ⊥)
    → loaded ≡ Bytes bytes
input_read None held rose loaded bytes h i few r = h ∙ ap (λ (x : List ℕ). Bytes x) (sym i)
input_read (Some name) held rose loaded bytes h i few r =
    file_read (held name) rose most_input_bytes loaded bytes h i few r

-- a file that is told to be too large is not read
pub file_large : (told : Option (List ℕ)) (rose : Type 0) (limit : ℕ) (loaded : Loaded)
    → IsRead told rose limit loaded → IsSomeAnd told (λ bytes. limit < length bytes)
    → (rose → ⊥) → loaded ≡ TooLarge
file_large told rose limit Fault h large r = absurd (r h)
file_large told rose limit TooLarge h large r = refl
file_large None rose limit (Bytes read) h large r = absurd large
file_large (Some bytes) rose limit (Bytes read) h large r =
    let m : length read ≡ length bytes = ap length h.0 in
    absurd (omega (arith, large, m, h.1))

pub input_large : (input : Option (List ℕ)) (held : List ℕ → Option (List ℕ)) (rose : Type 0)
    (loaded : Loaded) → IsInputRead input held rose loaded → IsLarge input held → (rose → ⊥)
    → loaded ≡ TooLarge
input_large None held rose loaded h large r = absurd large
input_large (Some name) held rose loaded h large r =
    file_large (held name) rose most_input_bytes loaded h large r
