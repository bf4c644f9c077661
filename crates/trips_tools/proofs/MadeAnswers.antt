-- What is answered where a tool made something of a file, or refused it.
use Rattle.std.proofs.Common.{ℕ, List, Result, Ok, Err, IfOk, ◌⊎◌, inl, inr, sym, ap, subst}
use Rattle.trips_requests.specs.declared.commands.Tool.TheVariants.{Assemble, Disassemble, Check}
use Rattle.trips_requests.specs.declared.answer.Answer.{Answer}
use Rattle.trips_report.specs.declared.said.Said.{Said}
use Rattle.trips_report.specs.inside.Refusals.{refusal_report}
use Rattle.trips_tools.specs.declared.made.Made.{Made}
use Rattle.trips_tools.specs.declared.made.Made.TheVariants as tool
use Rattle.trips_tools.specs.inside.Tools as tools
use Rattle.trips_tools.specs.Tools.{IsAssembled, IsGoodImage, IsOneImage}
use Rattle.trips_tools.specs.inside.Tools.{Makes}
use Rattle.trips_tools.specs.ToolAnswers.{IsNoImage, IsBadImage}
use Rattle.trips_tools.specs.inside.ToolAnswers.{IsMade, IsToolDone}

-- the image of a target text, or its refusal
pub assembled_told : {E : Type 0} (text : List ℕ) (made : Made) (r : Result Answer E)
    → Makes (IsAssembled text) (tools.IsNoText text) made
    → IfOk r (λ a. IsMade made a.status a.report.items)
    → IfOk r (λ a. IsToolDone Assemble text a.status a.report.items)
assembled_told text made (Err e) h told = tt
assembled_told text (tool.Bytes bytes) (Ok a) h told =
    inr (subst (IsAssembled text) (sym told.1) h, told.0)
assembled_told text (tool.Refused said) (Ok a) h told =
    inl (refusal_report said, (h.0, h.1, ap refusal_report h.2), told)

-- the target text of an image, or its refusal
pub disassembled_told : {E : Type 0} (bytes : List ℕ) (made : Made) (r : Result Answer E)
    → Makes (λ text. IsOneImage text bytes) (tools.IsNoImage bytes) made
    → IfOk r (λ a. IsMade made a.status a.report.items)
    → IfOk r (λ a. IsToolDone Disassemble bytes a.status a.report.items)
disassembled_told bytes made (Err e) h told = tt
disassembled_told bytes (tool.Bytes text) (Ok a) h told =
    inr (subst (λ (t : List ℕ). IsOneImage t bytes) (sym told.1) h, told.0)
disassembled_told bytes (tool.Refused said) (Ok a) h told =
    inl (refusal_report said, (h.0, h.1, ap refusal_report h.2), told)

-- the refusal of bytes that are no image of good blocks
pub not_good : (bytes : List ℕ) (said : Said) → tools.IsNoImage bytes said ⊎ tools.IsBadImage bytes said
    → IsNoImage bytes (refusal_report said) ⊎ IsBadImage bytes (refusal_report said)
not_good bytes said (inl x) = inl (x.0, x.1, ap refusal_report x.2)
not_good bytes said (inr x) = inr (x.0, x.1, x.2, x.3, x.4, ap refusal_report x.5)

-- the report on an image, or its refusal
pub checked_told : {E : Type 0} (bytes : List ℕ) (made : Made) (r : Result Answer E)
    → Makes (IsGoodImage bytes)
    (λ said. tools.IsNoImage bytes said ⊎ tools.IsBadImage bytes said) made
    → IfOk r (λ a. IsMade made a.status a.report.items)
    → IfOk r (λ a. IsToolDone Check bytes a.status a.report.items)
checked_told bytes made (Err e) h told = tt
checked_told bytes (tool.Bytes good) (Ok a) h told =
    inr (subst (IsGoodImage bytes) (sym told.1) h, told.0)
checked_told bytes (tool.Refused said) (Ok a) h told =
    inl (refusal_report said, not_good bytes said h, told)
