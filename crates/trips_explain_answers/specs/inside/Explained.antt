-- Beside what is believed of Explained.antt: what the explanation of a file is answered.
use Rattle.std.specs.Prelude.{◌≡◌, ◌≢◌, ◌⊎◌, ◌++◌, ℕ, List}
use Rattle.trips_isa.specs.declared.block.Image.{Image}
use Rattle.c_tree.specs.declared.typed.TypedProgram.{TypedProgram}
use Rattle.c_tree.specs.Limits.{most_tokens}
use Rattle.c_lex.specs.Lexes.{Tokens, Lexed}
use Rattle.c_front.specs.declared.refusal.Refusal.{Refusal}
use Rattle.c_front.specs.declared.refusal.Refusal.TheVariants.{Memory}
use Rattle.trips_requests.specs.declared.status.Status.{Status}
use Rattle.trips_requests.specs.declared.status.Status.TheVariants as status
use Rattle.trips_requests.specs.Texts.{IsFixed}
use Rattle.trips_explain_answers.specs.declared.shape.Shape.{Shape}
use Rattle.trips_explain_answers.specs.Told.{refusal_told}
use Rattle.trips_explain_answers.specs.Files.{IsBadTold, IsGoodTold}
use Rattle.trips_explain_answers.specs.Evaluated.{evaluated_told}
use Rattle.trips_explain_answers.specs.Explained.{IsSeen, IsBehind, accepted_told, IsRefusalOf, IsAcceptedOf}
use Rattle.trips_explain_answers.specs.Explained.{shape_named}

-- a refusal that is no want of memory, and what is told of it
abbrev pub IsTold : List ℕ → List ℕ → Refusal → Status → List ℕ → Type 0
IsTold file text r s report = (r ≢ Memory) × (tokens : Tokens) × IsSeen r text tokens
    × (more : List ℕ) × IsBehind file text tokens r more
    × IsFixed status.Refused (refusal_told file text tokens r ++ more) s report

-- the text has these tokens, and this is told of it and of its program
abbrev pub IsCounted : List ℕ → List ℕ → TypedProgram → List ℕ → Type 0
IsCounted file text program said = (tokens : Tokens) × Lexed most_tokens text tokens
    × (said ≡ accepted_told file text program tokens)

-- that is told, and of its evaluation, by the places of its functions
abbrev pub IsEnded : List ℕ → List ℕ → List ℕ → TypedProgram → List ℕ → ℕ → Status → List ℕ → Type 0
IsEnded file text definitions program input most s report = (said : List ℕ) × IsCounted file text program said
    × IsFixed status.Ended (said ++ evaluated_told file text definitions program input most) s report

-- the image has a block that is not good, or none, and this is told of it
abbrev pub IsJudged : List ℕ → Image → Status → List ℕ → Type 0
IsJudged file image s report = (IsBadTold file image report × (s ≡ status.Refused))
    ⊎ (IsGoodTold file image report × (s ≡ status.Ended))

-- a file of this shape is refused, and this is told of it
abbrev pub IsRefusedSo : Shape → List ℕ → List ℕ → Status → List ℕ → Type 0
IsRefusedSo how file bytes s report =
    (said : List ℕ) × IsRefusalOf how file bytes said × IsFixed status.Refused said s report

-- it is refused or accepted, and this is told of it, of a text of C with an input and so many steps
abbrev pub IsExplainedAs : Shape → List ℕ → List ℕ → List ℕ → ℕ → Status → List ℕ → Type 0
IsExplainedAs how file bytes input most s report =
    IsRefusedSo how file bytes s report ⊎ (IsAcceptedOf how file bytes input most report × (s ≡ status.Ended))

-- the same by the name of the file
abbrev pub IsExplained : List ℕ → List ℕ → List ℕ → ℕ → Status → List ℕ → Type 0
IsExplained file bytes input most s report = IsExplainedAs (shape_named file) file bytes input most s report
