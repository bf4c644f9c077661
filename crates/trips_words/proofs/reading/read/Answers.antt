use Rattle.std.proofs.Common.{sym, subst, [], None, IfOk, drop, map, List, codes}
use Rattle.std.specs.Prelude.{string_bytes}
use Rattle.trips_requests.specs.declared.commands.Verb.{Verb}
use Rattle.trips_requests.specs.declared.commands.Verb.TheVariants as verb
use Rattle.trips_requests.specs.Words.{Text, Named, words_read}
use Rattle.trips_requests.specs.Options.{run_options, bench_options, eval_options, compile_options, draw_options}
use Rattle.trips_requests.specs.Options.{explain_options}
use Rattle.trips_requests.specs.Options.{four_options, record_options, resume_options, save_options, verify_options}
use Rattle.trips_requests.specs.Options.{options_of, places_of}
use Rattle.trips_words.specs.inside.Read.{Tells}
use Rattle.trips_words.proofs.CommandLemmas.{run_read, bench_read, eval_read, compile_read, plain_read, of_plain}
use Rattle.trips_words.proofs.CommandLemmas.{explain_read}
use Rattle.trips_words.proofs.CommandLemmas.{draw_read, four_read, record_read, resume_read, save_read, verify_read}
use Rattle.trips_words.proofs.reading.read.Goals as goal

pub returns-in_ok-run_command-in-Run : goal.returns-in_ok-run_command-in-Run
returns-in_ok-run_command-in-Run c =
    let words : List Text = drop 1 (map (λ word. string_bytes word) c.args.words.now) in
    subst (λ (k : Verb). IfOk c.matched.result
    (Tells (options_of k) (words_read (options_of k) (places_of k) None [] words))) (sym c.in-Run.is)
    (c.matched.ensures (codes "run") run_options (places_of verb.Run) run_read
    c.in_ok-run_command-in-Run.ensures)

pub returns-in_ok-bench_command-in-Bench : goal.returns-in_ok-bench_command-in-Bench
returns-in_ok-bench_command-in-Bench c =
    let words : List Text = drop 1 (map (λ word. string_bytes word) c.args.words.now) in
    subst (λ (k : Verb). IfOk c.matched-in-Bench.result
    (Tells (options_of k) (words_read (options_of k) (places_of k) None [] words))) (sym c.in-Bench.is)
    (c.matched-in-Bench.ensures (codes "bench") bench_options (places_of verb.Bench) bench_read
    c.in_ok-bench_command-in-Bench.ensures)

pub returns-in_ok-eval_command-in-Evaluate : goal.returns-in_ok-eval_command-in-Evaluate
returns-in_ok-eval_command-in-Evaluate c =
    let words : List Text = drop 1 (map (λ word. string_bytes word) c.args.words.now) in
    subst (λ (k : Verb). IfOk c.matched-in-Evaluate.result
    (Tells (options_of k) (words_read (options_of k) (places_of k) None [] words))) (sym c.in-Evaluate.is)
    (c.matched-in-Evaluate.ensures (codes "eval") eval_options (places_of verb.Evaluate) eval_read
    c.in_ok-eval_command-in-Evaluate.ensures)

pub returns-in_ok-compile_command-in-Compile : goal.returns-in_ok-compile_command-in-Compile
returns-in_ok-compile_command-in-Compile c =
    let words : List Text = drop 1 (map (λ word. string_bytes word) c.args.words.now) in
    subst (λ (k : Verb). IfOk c.matched-in-Compile.result
    (Tells (options_of k) (words_read (options_of k) (places_of k) None [] words))) (sym c.in-Compile.is)
    (c.matched-in-Compile.ensures (codes "compile") compile_options (places_of verb.Compile) compile_read
    c.in_ok-compile_command-in-Compile.ensures)

pub returns-in_ok-explain_command-in-Explain : goal.returns-in_ok-explain_command-in-Explain
returns-in_ok-explain_command-in-Explain c =
    let words : List Text = drop 1 (map (λ word. string_bytes word) c.args.words.now) in
    subst (λ (k : Verb). IfOk c.matched-in-Explain.result
    (Tells (options_of k) (words_read (options_of k) (places_of k) None [] words))) (sym c.in-Explain.is)
    (c.matched-in-Explain.ensures (codes "explain") explain_options (places_of verb.Explain) explain_read
    c.in_ok-explain_command-in-Explain.ensures)

pub returns-in_ok-record_command-in-Record : goal.returns-in_ok-record_command-in-Record
returns-in_ok-record_command-in-Record c =
    let words : List Text = drop 1 (map (λ word. string_bytes word) c.args.words.now) in
    subst (λ (k : Verb). IfOk c.matched-in-Record.result
    (Tells (options_of k) (words_read (options_of k) (places_of k) None [] words))) (sym c.in-Record.is)
    (c.matched-in-Record.ensures (codes "record") record_options (places_of verb.Record) record_read
    c.in_ok-record_command-in-Record.ensures)

pub returns-in_ok-verify_command-in-Verify : goal.returns-in_ok-verify_command-in-Verify
returns-in_ok-verify_command-in-Verify c =
    let words : List Text = drop 1 (map (λ word. string_bytes word) c.args.words.now) in
    subst (λ (k : Verb). IfOk c.matched-in-Verify.result
    (Tells (options_of k) (words_read (options_of k) (places_of k) None [] words))) (sym c.in-Verify.is)
    (c.matched-in-Verify.ensures (codes "verify") verify_options (places_of verb.Verify) verify_read
    c.in_ok-verify_command-in-Verify.ensures)

pub returns-in_ok-save_command-in-Save : goal.returns-in_ok-save_command-in-Save
returns-in_ok-save_command-in-Save c =
    let words : List Text = drop 1 (map (λ word. string_bytes word) c.args.words.now) in
    subst (λ (k : Verb). IfOk c.matched-in-Save.result
    (Tells (options_of k) (words_read (options_of k) (places_of k) None [] words))) (sym c.in-Save.is)
    (c.matched-in-Save.ensures (codes "save") save_options (places_of verb.Save) save_read
    c.in_ok-save_command-in-Save.ensures)

pub returns-in_ok-resume_command-in-Resume : goal.returns-in_ok-resume_command-in-Resume
returns-in_ok-resume_command-in-Resume c =
    let words : List Text = drop 1 (map (λ word. string_bytes word) c.args.words.now) in
    subst (λ (k : Verb). IfOk c.matched-in-Resume.result
    (Tells (options_of k) (words_read (options_of k) (places_of k) None [] words))) (sym c.in-Resume.is)
    (c.matched-in-Resume.ensures (codes "resume") resume_options (places_of verb.Resume) resume_read
    c.in_ok-resume_command-in-Resume.ensures)

pub returns-in_ok-four_command-in-Four : goal.returns-in_ok-four_command-in-Four
returns-in_ok-four_command-in-Four c =
    let words : List Text = drop 1 (map (λ word. string_bytes word) c.args.words.now) in
    subst (λ (k : Verb). IfOk c.matched-in-Four.result
    (Tells (options_of k) (words_read (options_of k) (places_of k) None [] words))) (sym c.in-Four.is)
    (c.matched-in-Four.ensures (codes "four") four_options (places_of verb.Four) four_read
    c.in_ok-four_command-in-Four.ensures)

pub returns-in_ok-draw_command-in-Draw : goal.returns-in_ok-draw_command-in-Draw
returns-in_ok-draw_command-in-Draw c =
    let words : List Text = drop 1 (map (λ word. string_bytes word) c.args.words.now) in
    subst (λ (k : Verb). IfOk c.matched-in-Draw.result
    (Tells (options_of k) (words_read (options_of k) (places_of k) None [] words))) (sym c.in-Draw.is)
    (c.matched-in-Draw.ensures (codes "draw") draw_options (places_of verb.Draw) draw_read
    c.in_ok-draw_command-in-Draw.ensures)

pub returns-in_ok-plain_command-in_default : goal.returns-in_ok-plain_command-in_default
returns-in_ok-plain_command-in_default c =
    let words : List Text = drop 1 (map (λ word. string_bytes word) c.args.words.now) in
    of_plain (λ o p. IfOk c.matched-in_default.result (Tells o (words_read o p None [] words))) c.args.command
    c.in_default.not-Run c.in_default.not-Bench c.in_default.not-Evaluate c.in_default.not-Compile
    c.in_default.not-Record c.in_default.not-Verify c.in_default.not-Save c.in_default.not-Resume
    c.in_default.not-Four c.in_default.not-Draw c.in_default.not-Explain
    (c.matched-in_default.ensures (codes "trips") [] (places_of verb.Check) plain_read
    c.in_ok-plain_command-in_default.ensures)
