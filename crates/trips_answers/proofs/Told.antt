-- What the parts of an answer say together.
use Rattle.std.proofs.Common.{◌≡◌, ◌≢◌, ℕ, ◌<◌, ◌≤◌, List, Option}
use Rattle.std.proofs.Common.{None, Some, Result, Ok, Err, IfOk, All}
use Rattle.std.proofs.Common.{inl, inr, refl, sym, ap, subst, arith, ◌⊎◌, ◌++◌, ◌∙◌}
use Rattle.trips_isa.specs.declared.block.Image.{Image}
use Rattle.block_image.specs.Spelling.{ImageBytes}
use Rattle.block_check.specs.Faults.{IsGood}
use Rattle.block_check.specs.inside.Images.{IsCheckedImage}
use Rattle.c_front.specs.declared.refusal.Refusal.{Refusal}
use Rattle.c_front.specs.declared.refusal.Refusal.TheVariants as stage
use Rattle.c_front.specs.Refusals.{IsRefused, MayBeRefused}
use Rattle.c_compile.specs.Images.{IsImageOf}
use Rattle.trips_listing_answers.specs.Listings.{IsListing}
use Rattle.trips_listing_answers.specs.Traps.{IsTrapTold}
use Rattle.c_meaning_spec.specs.Laws.{IsInput}
use Rattle.grid_place.specs.declared.placed.Placing.{Placing}
use Rattle.trips_outside.specs.Outside.{Rose}
use Rattle.trips_requests.specs.declared.status.Status.{Status}
use Rattle.trips_requests.specs.declared.status.Status.TheVariants as status
use Rattle.trips_requests.specs.declared.answer.Answer.{Answer}
use Rattle.trips_requests.specs.declared.commands.Command.{Command}
use Rattle.trips_answers.specs.Work.{Work, work_on}
use Rattle.trips_answers.specs.Work.{Run, Evaluate, Compile, Listing}
use Rattle.trips_answers.specs.Work.{Assemble, Disassemble, Check, Explain, Record, Trap}
use Rattle.trips_answers.specs.declared.forms.FileForm.{FileForm}
use Rattle.trips_answers.specs.declared.forms.FileForm.TheVariants as form
use Rattle.trips_answers.specs.declared.forms.Settings.{Settings}
use Rattle.trips_requests.specs.declared.loading.Loaded.{Loaded}
use Rattle.trips_requests.specs.declared.loading.Loaded.TheVariants.{Fault, TooLarge, Bytes}
use Rattle.std.proofs.Common.{option_map}
use Rattle.trips_requests.specs.declared.commands.Asked.{Asked}
use Rattle.trips_requests.specs.declared.commands.Tool.{Tool}
use Rattle.trips_requests.specs.declared.commands.Tool.TheVariants as tools
use Rattle.trips_requests.specs.Requests as line
use Rattle.trips_requests.specs.inside.Requests as inside_line
use Rattle.trips_tools.specs.inside.ToolAnswers.{IsToolDone}
use Rattle.trips_trace_answers.specs.TraceAnswers.{IsRecording, IsRefusedImage}
use Rattle.trips_answers.specs.Request.{Request, origin_held, planned}
use Rattle.trips_answers.specs.inside.Settings.{request_seen}
use Rattle.trips_answers.specs.Read.{IsInputRead}
use Rattle.trips_answers.specs.Asks.{limit_of, most_input_bytes}
use Rattle.trips_requests.specs.Table.{IsRead, AfterReading}
use Rattle.trips_requests.specs.Limits.{most_target_bytes, most_image_bytes, most_save_bytes}
use Rattle.c_tree.specs.Limits.{most_source_bytes}
use Rattle.target_file.specs.Files.{TargetFile}
use Rattle.trips_eval_answers.specs.Refusals.{front_refusal}
use Rattle.trips_eval_answers.specs.Evaluation.{IsRefusedByFront}
use Rattle.trips_eval_answers.specs.inside.Evaluation.{IsRefusalBy, IsTextEvaluated}
use Rattle.trips_explain_answers.specs.inside.Explained.{IsExplained}
use Rattle.trips_answers.specs.Settings.{settings_of}
use Rattle.trips_answers.specs.Worked.{IsRunBy, IsDone, IsDoneBehind, IsTrapExplained}
use Rattle.trips_answers.specs.Fours.{Further, further_of}
use Rattle.trips_answers.proofs.Fours.{read_last}
use Rattle.trips_answers.proofs.Traced.{last}
use Rattle.trips_answers.specs.Answer.{IsAnswerBehind, IsAnswer}
use Rattle.trips_answers.specs.inside.Checked.{IsRunOfChecked}

-- every block of a checked image is good
pub checked_good : (image : Image) → IsCheckedImage image → All IsGood image.blocks
checked_good image checked = λ k d lt. (checked.each k d lt).good

-- refusals of texts ---------------------------------------------------------------------------

-- a refusal that is no want of memory is that of the text
refusal_is : (text : List ℕ) (r : Refusal) → MayBeRefused text r → r ≢ stage.Memory
    → IsRefused text r
refusal_is text (stage.Lex e) may some = may
refusal_is text (stage.Directive e) may some = may
refusal_is text (stage.Parse e) may some = may
refusal_is text (stage.Typing e) may some = may
refusal_is text stage.Memory may some = absurd (some refl)

-- the refusal of a text, with its report
pub front_told : (text : List ℕ) (refusal : Refusal) → MayBeRefused text refusal
    → refusal ≢ stage.Memory → IsRefusedByFront text (front_refusal text refusal)
front_told text refusal may some = (refusal, refusal_is text refusal may some, refl)

-- the refusal of a text under `run`
pub run_refused_told : {E : Type 0} (text input : List ℕ) (settings : Settings) (refusal : Refusal)
    (r : Result Answer E) → MayBeRefused text refusal
    → IfOk r (λ a. IsRefusalBy text refusal a.status a.report.items)
    → IfOk r (λ a. IsDone Run form.Source settings text input a.status a.report.items)
run_refused_told text input settings refusal (Err e) may told = tt
run_refused_told text input settings refusal (Ok a) may told =
    inl (front_refusal text refusal, front_told text refusal may told.0, told.1)

-- the run of the image that is compiled from a text
pub compiled_told : {E : Type 0} (text input : List ℕ) (settings : Settings) (image : Image)
    (r : Result Answer E) → IsImageOf text settings.placing settings.unroll image → IsInput input
    → IfOk r (λ a. IsRunBy image.blocks image.bytes input settings a.status a.report.items)
    → IfOk r (λ a. IsDone Run form.Source settings text input a.status a.report.items)
compiled_told text input settings image (Err e) is bytes told = tt
compiled_told text input settings image (Ok a) is bytes told = inr (image, is, bytes, told)

-- the refusal of a text under `compile`
pub compile_refused_told : {E : Type 0} (text : List ℕ) (placing : Placing) (unroll : ℕ) (refusal : Refusal)
    (r : Result Answer E)
    → MayBeRefused text refusal → IfOk r (λ a. IsRefusalBy text refusal a.status a.report.items)
    → IfOk r (λ a. (how : FileForm) (settings : Settings) (input : List ℕ) → settings.placing ≡ placing
    → settings.unroll ≡ unroll → IsDone Compile how settings text input a.status a.report.items)
compile_refused_told text placing unroll refusal (Err e) may told = tt
compile_refused_told text placing unroll refusal (Ok a) may told =
    λ how settings input same turns. inl (front_refusal text refusal, front_told text refusal may told.0, told.1)

-- the image that is compiled from a text is written
pub written_told : {E : Type 0} (text : List ℕ) (placing : Placing) (unroll : ℕ) (image : Image)
    (r : Result Answer E) → IsImageOf text placing unroll image
    → IfOk r (λ a. ImageBytes image a.report.items × (a.status ≡ status.Ended))
    → IfOk r (λ a. (how : FileForm) (settings : Settings) (input : List ℕ) → settings.placing ≡ placing
    → settings.unroll ≡ unroll → IsDone Compile how settings text input a.status a.report.items)
written_told text placing unroll image (Err e) is told = tt
written_told text placing unroll image (Ok a) is told = λ how settings input same turns.
    inr (
      image,
      subst (λ (p : Placing). IsImageOf text p settings.unroll image) (sym same)
          (subst (λ (n : ℕ). IsImageOf text placing n image) (sym turns) is),
      told.0,
      told.1,
    )

-- the refusal of a text under `compile --listing`
pub list_refused_told : {E : Type 0} (text : List ℕ) (placing : Placing) (unroll : ℕ) (refusal : Refusal)
    (r : Result Answer E)
    → MayBeRefused text refusal → IfOk r (λ a. IsRefusalBy text refusal a.status a.report.items)
    → IfOk r (λ a. (how : FileForm) (settings : Settings) (input : List ℕ) → settings.placing ≡ placing
    → settings.unroll ≡ unroll → IsDone Listing how settings text input a.status a.report.items)
list_refused_told text placing unroll refusal (Err e) may told = tt
list_refused_told text placing unroll refusal (Ok a) may told =
    λ how settings input same turns. inl (front_refusal text refusal, front_told text refusal may told.0, told.1)

-- the listing of an image that is compiled from a text is written
pub listed_told : (text : List ℕ) (placing : Placing) (unroll : ℕ) (report : List ℕ)
    → IsListing text placing unroll report → (how : FileForm) (settings : Settings) (input : List ℕ)
    → settings.placing ≡ placing → settings.unroll ≡ unroll
    → IsDone Listing how settings text input status.Ended report
listed_told text placing unroll report is how settings input same turns =
    inr (
      subst (λ (p : Placing). IsListing text p settings.unroll report) (sym same)
          (subst (λ (n : ℕ). IsListing text placing n report) (sym turns) is),
      refl,
    )

-- images --------------------------------------------------------------------------------------

checked_done : (bytes input : List ℕ) (settings : Settings) (image : Image) (s : Status) (report : List ℕ)
    → ImageBytes image bytes → IsRunOfChecked image settings input s report
    → IsDone Run form.Image settings bytes input s report
checked_done bytes input settings image s report spelled (inl run) =
    inr (image, spelled, run.0, run.1)
checked_done bytes input settings image s report spelled (inr bad) =
    inl (_, inr (image, bad.0, bad.1, spelled, bad.2, refl), bad.3)

-- the answer to the image that the bytes spell
pub image_told : {E : Type 0} (bytes input : List ℕ) (settings : Settings) (image : Image)
    (r : Result Answer E) → ImageBytes image bytes
    → IfOk r (λ a. IsRunOfChecked image settings input a.status a.report.items)
    → IfOk r (λ a. IsDone Run form.Image settings bytes input a.status a.report.items)
image_told bytes input settings image (Err e) spelled told = tt
image_told bytes input settings image (Ok a) spelled told =
    checked_done bytes input settings image a.status a.report.items spelled told

checked_target : (text input : List ℕ) (settings : Settings) (image : Image) (s : Status)
    (report : List ℕ) → TargetFile image text → IsRunOfChecked image settings input s report
    → IsDone Run form.Target settings text input s report
checked_target text input settings image s report spelled (inl run) =
    inr (image, spelled, run.0, run.1)
checked_target text input settings image s report spelled (inr bad) =
    inl (_, inr (image, bad.0, bad.1, spelled, bad.2, refl), bad.3)

-- the answer to the image of a target text
pub target_told : {E : Type 0} (text input : List ℕ) (settings : Settings) (image : Image)
    (r : Result Answer E) → TargetFile image text
    → IfOk r (λ a. IsRunOfChecked image settings input a.status a.report.items)
    → IfOk r (λ a. IsDone Run form.Target settings text input a.status a.report.items)
target_told text input settings image (Err e) spelled told = tt
target_told text input settings image (Ok a) spelled told =
    checked_target text input settings image a.status a.report.items spelled told

-- the work -----------------------------------------------------------------------------------

-- any file has fewer bytes than 2^32 - 1
pub few_bytes : (how : FileForm) → limit_of how < 4294967295
unfolding most_source_bytes most_target_bytes most_image_bytes most_save_bytes
few_bytes form.Source = omega arith
few_bytes form.Target = omega arith
few_bytes form.Image = omega arith
few_bytes form.Saved = omega arith

-- the work of a command that is told
pub work_is : {a b : Command} (file : List ℕ) → a ≡ b → work_on a file ≡ work_on b file
work_is file is = ap (λ (k : Command). work_on k file) is

-- what `eval` does, whatever its file is read as
pub evaluate_told : {E : Type 0} (work : Work) (how : FileForm) (steps : ℕ) (settings : Settings)
    (bytes seen input : List ℕ) (r : Result Answer E) → work ≡ Evaluate → settings.most ≡ steps
    → seen ≡ input → IfOk r (λ a. IsTextEvaluated steps bytes seen a.status a.report.items)
    → IfOk r (λ a. IsDone work how settings bytes input a.status a.report.items)
evaluate_told work how steps settings bytes seen input (Err e) is most same told = tt
evaluate_told work how steps settings bytes seen input (Ok a) is most same told =
    subst (λ (w : Work). IsDone w how settings bytes input a.status a.report.items) (sym is)
    (subst (λ (i : List ℕ). IsTextEvaluated settings.most bytes i a.status a.report.items) same
    (subst (λ (m : ℕ). IsTextEvaluated m bytes seen a.status a.report.items) (sym most) told))

-- what `run` does with a file of this form
pub run_form_told : {E : Type 0} (work : Work) (how read : FileForm) (settings seen : Settings)
    (bytes input : List ℕ) (r : Result Answer E) → work ≡ Run → read ≡ how → seen ≡ settings
    → IfOk r (λ a. IsDone Run read seen bytes input a.status a.report.items)
    → IfOk r (λ a. IsDone work how settings bytes input a.status a.report.items)
run_form_told work how read settings seen bytes input (Err e) is same set told = tt
run_form_told work how read settings seen bytes input (Ok a) is same set told =
    subst (λ (w : Work). IsDone w how settings bytes input a.status a.report.items) (sym is)
    (subst (λ (f : FileForm). IsDone Run f settings bytes input a.status a.report.items) same
    (subst (λ (t : Settings). IsDone Run read t bytes input a.status a.report.items) set told))

-- what `compile` does, whatever its file is read as
pub compile_told : {E : Type 0} (work : Work) (how : FileForm) (placing : Placing) (unroll : ℕ)
    (settings : Settings) (bytes input : List ℕ) (r : Result Answer E) → work ≡ Compile
    → settings.placing ≡ placing → settings.unroll ≡ unroll
    → IfOk r (λ a. (f : FileForm) (t : Settings) (i : List ℕ) → t.placing ≡ placing → t.unroll ≡ unroll
    → IsDone Compile f t bytes i a.status a.report.items)
    → IfOk r (λ a. IsDone work how settings bytes input a.status a.report.items)
compile_told work how placing unroll settings bytes input (Err e) is same turns told = tt
compile_told work how placing unroll settings bytes input (Ok a) is same turns told =
    subst (λ (w : Work). IsDone w how settings bytes input a.status a.report.items) (sym is)
    (told how settings input same turns)

-- what `compile --listing` does, whatever its file is read as
pub list_told : {E : Type 0} (work : Work) (how : FileForm) (placing : Placing) (unroll : ℕ)
    (settings : Settings) (bytes input : List ℕ) (r : Result Answer E) → work ≡ Listing
    → settings.placing ≡ placing → settings.unroll ≡ unroll
    → IfOk r (λ a. (f : FileForm) (t : Settings) (i : List ℕ) → t.placing ≡ placing → t.unroll ≡ unroll
    → IsDone Listing f t bytes i a.status a.report.items)
    → IfOk r (λ a. IsDone work how settings bytes input a.status a.report.items)
list_told work how placing unroll settings bytes input (Err e) is same turns told = tt
list_told work how placing unroll settings bytes input (Ok a) is same turns told =
    subst (λ (w : Work). IsDone w how settings bytes input a.status a.report.items) (sym is)
    (told how settings input same turns)

-- what `explain` does, whatever its file is read as
pub explain_told : {E : Type 0} (work : Work) (how : FileForm) (file : List ℕ) (steps : ℕ) (settings : Settings)
    (bytes seen input : List ℕ) (r : Result Answer E) → work ≡ Explain file → settings.most ≡ steps
    → seen ≡ input → IfOk r (λ a. IsExplained file bytes seen steps a.status a.report.items)
    → IfOk r (λ a. IsDone work how settings bytes input a.status a.report.items)
explain_told work how file steps settings bytes seen input (Err e) is most same told = tt
explain_told work how file steps settings bytes seen input (Ok a) is most same told =
    subst (λ (w : Work). IsDone w how settings bytes input a.status a.report.items) (sym is)
    (subst (λ (i : List ℕ). IsExplained file bytes i settings.most a.status a.report.items) same
    (subst (λ (m : ℕ). IsExplained file bytes seen m a.status a.report.items) (sym most) told))

-- what `explain --trap` answers: what is told of a trap stands behind an accepted text's explanation
pub trap_behind : (file text input : List ℕ) (steps : ℕ) (s t : Status) (told report : List ℕ)
    → IsExplained file text input steps s told → s ≡ status.Ended → t ≡ s
    → (trap : List ℕ) × IsTrapTold text input steps trap × (report ≡ told ++ trap)
    → (how : FileForm) (settings : Settings) → settings.most ≡ steps
    → IsDone (Trap file) how settings text input t report
trap_behind file text input steps s t told report (inl refused) ended same trap how settings most =
    let both : status.Ended ≡ status.Refused = sym ended ∙ refused.2.0 in absurd (cc)
trap_behind file text input steps s t told report (inr accepted) ended same trap how settings most = inr (
  subst (λ (m : ℕ). IsTrapExplained file text input m report) (sym most)
      (told, trap.0, accepted.0, trap.1, trap.2),
  same ∙ ended,
)

-- and elsewhere it is the refusal
pub trap_refused : (file text input : List ℕ) (steps : ℕ) (s : Status) (report : List ℕ)
    → IsExplained file text input steps s report → (s ≡ status.Ended → ⊥) → (how : FileForm) (settings : Settings)
    → settings.most ≡ steps → IsDone (Trap file) how settings text input s report
trap_refused file text input steps s report (inl refused) over how settings most = inl refused
trap_refused file text input steps s report (inr accepted) over how settings most = absurd (over accepted.1)

-- what it does, whatever its file is read as
pub trap_done_told : {E : Type 0} (work : Work) (how : FileForm) (file : List ℕ) (steps : ℕ) (settings : Settings)
    (bytes input : List ℕ) (r : Result Answer E) → work ≡ Trap file → settings.most ≡ steps
    → IfOk r (λ a. (f : FileForm) (t : Settings) → t.most ≡ steps
    → IsDone (Trap file) f t bytes input a.status a.report.items)
    → IfOk r (λ a. IsDone work how settings bytes input a.status a.report.items)
trap_done_told work how file steps settings bytes input (Err e) is most told = tt
trap_done_told work how file steps settings bytes input (Ok a) is most told =
    subst (λ (w : Work). IsDone w how settings bytes input a.status a.report.items) (sym is) (told how settings most)

-- the work of a tool
abbrev pub work_of : Tool → Work
work_of tools.Assemble = Assemble
work_of tools.Disassemble = Disassemble
work_of tools.Check = Check

-- the row of a tool, whatever is asked for besides its file
tool_row : (tool : Tool) (how : FileForm) (settings : Settings) (bytes input : List ℕ) (s : Status)
    (report : List ℕ) → IsToolDone tool bytes s report
    → IsDone (work_of tool) how settings bytes input s report
tool_row tools.Assemble how settings bytes input s report done = done
tool_row tools.Disassemble how settings bytes input s report done = done
tool_row tools.Check how settings bytes input s report done = done

-- what a tool does
pub tool_told : {E : Type 0} (work : Work) (tool : Tool) (how : FileForm) (settings : Settings)
    (bytes input : List ℕ) (r : Result Answer E) → work ≡ work_of tool
    → IfOk r (λ a. IsToolDone tool bytes a.status a.report.items)
    → IfOk r (λ a. IsDone work how settings bytes input a.status a.report.items)
tool_told work tool how settings bytes input (Err e) is told = tt
tool_told work tool how settings bytes input (Ok a) is told =
    subst (λ (w : Work). IsDone w how settings bytes input a.status a.report.items) (sym is)
    (tool_row tool how settings bytes input a.status a.report.items told)

-- what `record` does, whatever its file is read as
pub record_told : {E : Type 0} (work : Work) (how : FileForm) (settings seen : Settings) (bytes input : List ℕ)
    (r : Result Answer E) → work ≡ Record → seen ≡ settings
    → IfOk r (λ a. IsRefusedImage bytes a.status a.report.items
    ⊎ IsRecording seen.most bytes input a.status a.report.items)
    → IfOk r (λ a. IsDone work how settings bytes input a.status a.report.items)
record_told work how settings seen bytes input (Err e) is set told = tt
record_told work how settings seen bytes input (Ok a) is set told =
    subst (λ (w : Work). IsDone w how settings bytes input a.status a.report.items) (sym is)
    (subst (λ (t : Settings). IsDone Record how t bytes input a.status a.report.items) set told)

-- the whole answer ----------------------------------------------------------------------------

-- a count that rose in a part of a time rose in the whole
pub rose_first : (old now new : ℕ) → now ≤ new → Rose old now → Rose old new
rose_first old now new le up = omega arith

read_first : (told : Option (List ℕ)) (old now new limit : ℕ) (loaded : Loaded) → now ≤ new
    → IsRead told (Rose old now) limit loaded → IsRead told (Rose old new) limit loaded
read_first told old now new limit Fault le h = rose_first old now new le h
read_first told old now new limit TooLarge le h = h
read_first told old now new limit (Bytes bytes) le h = h

input_last : (input : Option (List ℕ)) (held : List ℕ → Option (List ℕ)) (old now new : ℕ)
    (loaded : Loaded) → old ≤ now → IsInputRead input held (Rose now new) loaded
    → IsInputRead input held (Rose old new) loaded
input_last None held old now new loaded le h = h
input_last (Some name) held old now new loaded le h =
    read_last (held name) old now new most_input_bytes loaded le h

input_first : (input : Option (List ℕ)) (held : List ℕ → Option (List ℕ)) (old now new : ℕ)
    (loaded : Loaded) → now ≤ new → IsInputRead input held (Rose old now) loaded
    → IsInputRead input held (Rose old new) loaded
input_first None held old now new loaded le h = h
input_first (Some name) held old now new loaded le h =
    read_first (held name) old now new most_input_bytes loaded le h

-- what is answered behind an input whose count rose in the last part of a time
after_last : (q : Request) (told : Option (List ℕ)) (fs : List Further) (old now new : ℕ) (bytes : List ℕ)
    (loaded : Loaded) (s : Status) (report : List ℕ) → old ≤ now
    → AfterReading loaded
    (λ input. IsDoneBehind told fs (Rose now new) q.work q.form (settings_of q) bytes input s report) s report
    → AfterReading loaded
    (λ input. IsDoneBehind told fs (Rose old new) q.work q.form (settings_of q) bytes input s report) s report
after_last q told fs old now new bytes Fault s report le a = a
after_last q told fs old now new bytes TooLarge s report le a = a
after_last q told fs old now new bytes (Bytes input) s report le a =
    last told fs old now new q.work q.form (settings_of q) bytes input s report le a

-- the answer behind an input that was read
pub input_told : {E : Type 0} (q : Request) (held kept : List ℕ → Option (List ℕ)) (old now new : ℕ)
    (bytes : List ℕ) (loaded : Loaded) (r : Result Answer E) → kept ≡ held → old ≤ now → now ≤ new
    → IsInputRead q.input held (Rose old now) loaded
    → IfOk r (λ a. AfterReading loaded (λ input. IsDoneBehind (kept q.trace) (further_of kept q) (Rose now new) q.work
    q.form (settings_of q) bytes input a.status a.report.items) a.status a.report.items)
    → IfOk r (λ a. IsAnswerBehind q held (Rose old new) bytes a.status a.report.items)
input_told q held kept old now new bytes loaded (Err e) same le next h told = tt
input_told q held kept old now new bytes loaded (Ok a) same le next h told =
    let here = subst (λ (k : List ℕ → Option (List ℕ)). AfterReading loaded (λ input. IsDoneBehind (k q.trace)
    (further_of k q) (Rose now new) q.work q.form (settings_of q) bytes input a.status a.report.items) a.status
    a.report.items)
    same told in (
      loaded,
      input_first q.input held old now new loaded next h,
      after_last q (held q.trace) (further_of held q) old now new bytes loaded a.status a.report.items le here,
    )

-- the answer for what reading the file came to
pub loaded_told : {E : Type 0} (q : Request) (held : List ℕ → Option (List ℕ)) (rose : Type 0)
    (limit : ℕ) (loaded : Loaded) (r : Result Answer E) → limit ≡ limit_of q.form
    → IsRead (origin_held held q.origin) rose limit loaded
    → IfOk r (λ a. AfterReading loaded (λ bytes. IsAnswerBehind q held rose bytes a.status
    a.report.items) a.status a.report.items)
    → IfOk r (λ a. IsAnswer (Some q) held rose a.status a.report.items)
loaded_told q held rose limit loaded (Err e) is h told = tt
loaded_told q held rose limit loaded (Ok a) is h told =
    (loaded, subst (λ (n : ℕ). IsRead (origin_held held q.origin) rose n loaded) is h, told)

-- the answer behind a file that was read
pub behind_told : {E : Type 0} (q : Request) (held kept : List ℕ → Option (List ℕ))
    (old now new : ℕ) (bytes : List ℕ) (r : Result Answer E) → kept ≡ held → old ≤ now
    → now ≤ new → IsRead (origin_held held q.origin) (Rose old now) (limit_of q.form) (Bytes bytes)
    → IfOk r (λ a. IsAnswerBehind q kept (Rose now new) bytes a.status a.report.items)
    → IfOk r (λ a. IsAnswer (Some q) held (Rose old new) a.status a.report.items)
behind_told q held kept old now new bytes (Err e) same le next h told = tt
behind_told q held kept old now new bytes (Ok a) same le next h told =
    let here = subst (λ (k : List ℕ → Option (List ℕ)). IsAnswerBehind q k (Rose now new) bytes
    a.status a.report.items) same told in (
      Bytes bytes,
      read_first (origin_held held q.origin) old now new (limit_of q.form) (Bytes bytes) next h,
      (
        here.0,
        input_last q.input held old now new here.0 le here.1,
        after_last q (held q.trace) (further_of held q) old now new bytes here.0 a.status a.report.items le here.2,
      ),
    )

-- the answer behind a file that was read, as the code has its bytes
pub bytes_told : {E : Type 0} (q : Request) (held kept : List ℕ → Option (List ℕ))
    (old now new limit : ℕ) (loaded : Loaded) (bytes seen : List ℕ) (r : Result Answer E) → kept ≡ held
    → old ≤ now → now ≤ new → limit ≡ limit_of q.form → loaded ≡ Bytes bytes → seen ≡ bytes
    → IsRead (origin_held held q.origin) (Rose old now) limit loaded
    → IfOk r (λ a. IsAnswerBehind q kept (Rose now new) seen a.status a.report.items)
    → IfOk r (λ a. IsAnswer (Some q) held (Rose old new) a.status a.report.items)
bytes_told q held kept old now new limit loaded bytes seen r same le next is at saw h told =
    behind_told q held kept old now new bytes r same le next
    (subst (λ (n : ℕ). IsRead (origin_held held q.origin) (Rose old now) n (Bytes bytes)) is
    (subst (λ (l : Loaded). IsRead (origin_held held q.origin) (Rose old now) limit l) at h))
    (subst (λ (b : List ℕ). IfOk r (λ a. IsAnswerBehind q kept (Rose now new) b a.status a.report.items)) saw told)

-- the request of the code is that of the words
pub seen_told : (r : Option Asked) (o : Option line.Request) → option_map inside_line.request_seen r ≡ o
    → option_map request_seen r ≡ option_map planned o
seen_told None o e = ap (option_map planned) e
seen_told (Some asked) o e = ap (option_map planned) e

-- the answer to the request of the words
pub asked_told : {E : Type 0} (seen request : Option Request) (held : List ℕ → Option (List ℕ))
    (rose : Type 0) (r : Result Answer E) → seen ≡ request
    → IfOk r (λ a. IsAnswer seen held rose a.status a.report.items)
    → IfOk r (λ a. IsAnswer request held rose a.status a.report.items)
asked_told seen request held rose (Err e) is told = tt
asked_told seen request held rose (Ok a) is told =
    subst (λ q. IsAnswer q held rose a.status a.report.items) is told
