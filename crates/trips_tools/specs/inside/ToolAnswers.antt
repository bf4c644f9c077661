-- Beside what is believed of ToolAnswers.antt: what the tools are answered for the bytes of a file.
use Rattle.std.specs.Prelude.{◌≡◌, ◌⊎◌, ℕ, List}
use Rattle.trips_requests.specs.declared.commands.Tool.{Tool}
use Rattle.trips_requests.specs.declared.commands.Tool.TheVariants.{Assemble, Disassemble, Check}
use Rattle.trips_requests.specs.declared.status.Status.{Status}
use Rattle.trips_requests.specs.declared.status.Status.TheVariants as status
use Rattle.trips_requests.specs.Texts.{IsFixed}
use Rattle.trips_report.specs.inside.Refusals.{refusal_report}
use Rattle.trips_tools.specs.declared.made.Made.{Made}
use Rattle.trips_tools.specs.declared.made.Made.TheVariants.{Bytes, Refused}
use Rattle.trips_tools.specs.Tools.{IsAssembled, IsGoodImage, IsOneImage}
use Rattle.trips_tools.specs.ToolAnswers.{IsNoImage, IsBadImage, IsNoText}

-- the bytes that were made are the report, or the refusal's is
abbrev pub IsMade : Made → Status → List ℕ → Type 0
IsMade (Bytes bytes) s report = IsFixed status.Ended bytes s report
IsMade (Refused said) s report = IsFixed status.Refused (refusal_report said) s report

-- a tool refuses the bytes, and this is the report
abbrev pub IsToolRefused : Tool → List ℕ → List ℕ → Type 0
IsToolRefused Assemble text report = IsNoText text report
IsToolRefused Disassemble bytes report = IsNoImage bytes report
IsToolRefused Check bytes report = IsNoImage bytes report ⊎ IsBadImage bytes report

-- a tool makes this of the bytes: the bytes of the text's image, the text of the image, or how many good
-- blocks it has
abbrev pub IsToolMade : Tool → List ℕ → List ℕ → Type 0
IsToolMade Assemble text report = IsAssembled text report
IsToolMade Disassemble bytes report = IsOneImage report bytes
IsToolMade Check bytes report = IsGoodImage bytes report

-- the bytes are refused, or something is made of them
abbrev pub IsToolDone : Tool → List ℕ → Status → List ℕ → Type 0
IsToolDone tool bytes s report =
    ((text : List ℕ) × IsToolRefused tool bytes text × IsFixed status.Refused text s report)
    ⊎ (IsToolMade tool bytes report × (s ≡ status.Ended))
