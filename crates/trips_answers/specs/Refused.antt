-- Which requests are refused, and with which reports.
use Rattle.std.specs.Prelude.{◌≡◌, ◌⊎◌, ℕ, ◌+◌, ◌-◌, ◌<◌, List, [], ◌∷◌, Option, None, Some, IfSome, IsSomeAnd}
use Rattle.std.specs.Prelude.{length}
use Rattle.trips_isa.specs.declared.block.Image.{Image}
use Rattle.trips_isa.specs.declared.run.Stepped.TheVariants.{Went}
use Rattle.trips_isa.specs.Machine.{runs, start}
use Rattle.trips_answers.specs.Work.{Work}
use Rattle.trips_answers.specs.Work.{Run, Evaluate, Compile, Listing, Trap}
use Rattle.trips_answers.specs.Work.{Assemble, Disassemble, Check, Draw, Explain, Record, Verify, Save, Four}
use Rattle.trips_answers.specs.declared.forms.FileForm.{FileForm}
use Rattle.trips_answers.specs.declared.forms.FileForm.TheVariants as form
use Rattle.trips_answers.specs.Request.{Request, origin_held}
use Rattle.trips_answers.specs.Read.{HoldsInput, MayBeLarge, IsLarge}
use Rattle.trips_answers.specs.Traced.{IsTraceRefused}
use Rattle.trips_outside.specs.Outside.{Holds}
use Rattle.trips_answers.specs.Asks.{limit_of}
use Rattle.trips_eval_answers.specs.Evaluation.{IsRefusedByFront}
use Rattle.trips_explain_answers.specs.Explained.{IsRefusalTold}
use Rattle.trips_draw_answers.specs.Drawn.{drawing_of}
use Rattle.trips_tools.specs.ToolAnswers.{IsNoImage, IsBadImage, IsNoText}
use Rattle.trips_grid_answers.specs.Saved.{IsNoSave}
use Rattle.trips_answers.specs.Done.{CanBeDone, IsImageFor}
use Rattle.trips_answers.specs.Fours.{IsLargeAmong, IsNoProgram, IsRefusedAmong, IsRefusedAt, Program, further_of}
pub use Rattle.trips_answers.specs.Fours.{IsBadText}

-- The bytes of a file are refused by what is done with it, with this report: a row for each command
-- and each form of its file.
abbrev pub IsRefusedAs : Work → FileForm → List ℕ → List ℕ → Type 0
IsRefusedAs Evaluate how text report = IsRefusedByFront text report
IsRefusedAs Run form.Source text report = IsRefusedByFront text report
IsRefusedAs Run form.Target text report = IsNoText text report ⊎ IsBadText text report
IsRefusedAs Run form.Image bytes report = IsNoImage bytes report ⊎ IsBadImage bytes report
IsRefusedAs Run form.Saved bytes report = IsNoSave bytes report
IsRefusedAs Save how bytes report = IsNoProgram how bytes report
IsRefusedAs Four how bytes report = IsRefusedAt 0 how bytes report
IsRefusedAs Draw how bytes report = IsNoProgram how bytes report
IsRefusedAs Compile how text report = IsRefusedByFront text report
IsRefusedAs Listing how text report = IsRefusedByFront text report
IsRefusedAs Assemble how text report = IsNoText text report
IsRefusedAs Disassemble how bytes report = IsNoImage bytes report
IsRefusedAs Check how bytes report = IsNoImage bytes report ⊎ IsBadImage bytes report
IsRefusedAs (Explain file) how text report = IsRefusalTold file text report
IsRefusedAs (Trap file) how text report = IsRefusalTold file text report
IsRefusedAs Record how bytes report = IsNoImage bytes report ⊎ IsBadImage bytes report
IsRefusedAs Verify how bytes report = IsNoImage bytes report ⊎ IsBadImage bytes report

-- the file has too many bytes, or they are refused
abbrev pub IsBad : Request → List ℕ → Type 0
IsBad q bytes = (limit_of q.form < length bytes)
    ⊎ ((report : List ℕ) × IsRefusedAs q.work q.form bytes report)

-- the trace's file is refused, with an image and an input, all as far as they are told
pub record MayRefuseTrace (q : Request) (held : List ℕ → Option (List ℕ)) : Type 0 where
  pub is_work : q.work ≡ Verify
  pub bytes : List ℕ
  pub input : List ℕ
  pub trace : List ℕ
  pub text : List ℕ
  pub holds : Holds (origin_held held q.origin) bytes
  pub holds_input : HoldsInput q.input held input
  pub holds_trace : Holds (held q.trace) trace
  pub refused : IsTraceRefused bytes input trace text

-- an image lacks what is asked of it: its run is over before it is to be saved, or it has no block of the number that
-- is to be drawn
abbrev pub Lacks : Work → Image → List ℕ → ℕ → Type 0
Lacks Save image input most = (runs image.blocks (start image.bytes input) most).1 ≡ Went → ⊥
Lacks Draw image input most = drawing_of image.blocks (most - 1) ≡ None
Lacks work image input most = ⊥

-- so does that of the request, with an input, all as far as they are told
pub record MayLack (q : Request) (held : List ℕ → Option (List ℕ)) : Type 0 where
  pub bytes : List ℕ
  pub input : List ℕ
  pub image : Image
  pub holds : Holds (origin_held held q.origin) bytes
  pub holds_input : HoldsInput q.input held input
  pub is_image : IsImageFor q.form q.unroll bytes image
  pub lacks : Lacks q.work image input q.most

-- The report that refuses the lowest of some files of which no image is made, behind those of which one can be. They
-- are counted from a number.
abbrev pub IsLowestRefused : ℕ → List Program → List ℕ → Type 0
IsLowestRefused number [] text = ⊥
IsLowestRefused number (p ∷ ps) text =
    IsRefusedAt number p.0 p.1 text ⊎ (CanBeDone Four p.0 p.1 × IsLowestRefused (number + 1) ps text)

-- a further file has too many bytes or is refused, as far as they are told
pub record MayRefuseFurther (q : Request) (held : List ℕ → Option (List ℕ)) : Type 0 where
  pub is_work : q.work ≡ Four
  pub bad : IsLargeAmong (further_of held q) ⊎ ((text : List ℕ) × IsRefusedAmong 1 (further_of held q) text)

-- the request is refused only where this holds
abbrev pub MayBeRefused : Option Request → (List ℕ → Option (List ℕ)) → Type 0
MayBeRefused None held = ⊥
MayBeRefused (Some q) held =
    IfSome (origin_held held q.origin) (IsBad q)
    ⊎ (MayBeLarge q.input held ⊎ (MayRefuseTrace q held ⊎ (MayLack q held ⊎ MayRefuseFurther q held)))

-- and it is refused where this holds
abbrev pub IsRefused : Option Request → (List ℕ → Option (List ℕ)) → Type 0
IsRefused None held = ⊥
IsRefused (Some q) held =
    IsSomeAnd (origin_held held q.origin) (IsBad q) ⊎ IsLarge q.input held
