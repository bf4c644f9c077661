use Rattle.trips_answers.proofs.Causes as causes
use Rattle.trips_answers.proofs.FourExact as four
use Rattle.trips_answers.proofs.Reported as reported
use Rattle.trips_answers.proofs.ShownRuns as shown
use Rattle.trips_run.proofs.answering.answer_words.Goals as goal

pub returns-clause-shown_headline : goal.returns-clause-shown_headline
returns-clause-shown_headline g c =
    λ most n show text input output value steps program call is done enough. shown.headline _ _ _ _ _ _ _
    c.answer_written.ensures.answered most show text input n output value steps program call.asks is done enough
    call.undisturbed.read call.undisturbed.written call.memory

pub returns-clause-shown_deep : goal.returns-clause-shown_deep
returns-clause-shown_deep g c =
    λ most n show text input output program call is full enough. shown.deep _ _ _ _ _ _ _
    c.answer_written.ensures.answered most show text input n output program call.asks is full enough
    call.undisturbed.read call.undisturbed.written call.memory

pub returns-clause-text_run : goal.returns-clause-text_run
returns-clause-text_run g c =
    λ most text input program call is. reported.text_run _ _ _ _ _ _ _ c.answer_written.ensures.answered
    most text input program call.asks is call.undisturbed.read call.undisturbed.written call.memory

pub returns-clause-shown_text_run : goal.returns-clause-shown_text_run
returns-clause-shown_text_run g c =
    λ most show text input program call is. shown.text_run _ _ _ _ _ _ _ c.answer_written.ensures.answered
    most show text input program call.asks is call.undisturbed.read call.undisturbed.written call.memory

pub returns-clause-shown_image_run : goal.returns-clause-shown_image_run
returns-clause-shown_image_run g c =
    λ most show bytes input image call spelled good. shown.image_run _ _ _ _ _ _ _ c.answer_written.ensures.answered
    most show bytes input image call.asks spelled good call.undisturbed.read call.undisturbed.written call.memory

pub returns-clause-target_run : goal.returns-clause-target_run
returns-clause-target_run g c =
    λ most show text input image call spelled good. shown.target_run _ _ _ _ _ _ _ c.answer_written.ensures.answered
    most show text input image call.asks spelled good call.undisturbed.read call.undisturbed.written call.memory

pub returns-clause-shown_resumed : goal.returns-clause-shown_resumed
returns-clause-shown_resumed g c =
    λ most show bytes input image t call saves. shown.resumed _ _ _ _ _ _ _ c.answer_written.ensures.answered
    most show bytes input image t call.asks saves call.undisturbed.read call.undisturbed.written call.memory

pub returns-clause-compiled : goal.returns-clause-compiled
returns-clause-compiled g c =
    λ how most show text input program call is. reported.compiled _ _ _ _ _ _ _ c.answer_written.ensures.answered
    how most show text input program call.asks is call.undisturbed.read call.undisturbed.written call.memory

pub returns-clause-listed : goal.returns-clause-listed
returns-clause-listed g c =
    λ how most show text input program call is. reported.listed _ _ _ _ _ _ _ c.answer_written.ensures.answered
    how most show text input program call.asks is call.undisturbed.read call.undisturbed.written call.memory

pub returns-clause-shown_fours : goal.returns-clause-shown_fours
returns-clause-shown_fours g c =
    λ how most show bytes input others call told can. four.runs _ _ _ _ _ _ _ c.answer_written.ensures.answered
    how most show bytes input others call.asks told call.undisturbed.read call.undisturbed.written call.memory can

pub returns-clause-four_refusal : goal.returns-clause-four_refusal
returns-clause-four_refusal g c =
    λ how most show bytes input report others call told bad. four.refusal _ _ _ _ _ _ _
    c.answer_written.ensures.answered how most show bytes input others call.asks told
    call.undisturbed.read call.undisturbed.written call.memory report bad

pub returns-clause-refusal : goal.returns-clause-refusal
returns-clause-refusal g c =
    λ work how most show bytes input report call other bad. reported.refusal _ _ _ _ _ _ _
    c.answer_written.ensures.answered work how most show bytes input report call.asks other bad
    call.undisturbed.read call.undisturbed.written call.memory

pub returns-clause-refused_only : goal.returns-clause-refused_only
returns-clause-refused_only g c =
    causes.refused_only _ _ _ _ _ _ _ c.answer_written.ensures.answered

pub returns-clause-refused_comes : goal.returns-clause-refused_comes
returns-clause-refused_comes g c =
    causes.refused_comes _ _ _ _ _ _ _ c.answer_written.ensures.answered

pub returns-clause-undefined_only : goal.returns-clause-undefined_only
returns-clause-undefined_only g c =
    causes.undefined_only _ _ _ _ _ _ _ c.answer_written.ensures.answered

pub returns-clause-eval_ends : goal.returns-clause-eval_ends
returns-clause-eval_ends g c =
    causes.eval_ends _ _ _ _ _ _ _ c.answer_written.ensures.answered

pub returns-clause-run_ends : goal.returns-clause-run_ends
returns-clause-run_ends g c =
    causes.run_ends _ _ _ _ _ _ _ c.answer_written.ensures.answered

pub returns-clause-made_ends : goal.returns-clause-made_ends
returns-clause-made_ends g c =
    causes.made_ends _ _ _ _ _ _ _ c.answer_written.ensures.answered

pub returns-clause-result_means : goal.returns-clause-result_means
returns-clause-result_means g c =
    causes.result_means _ _ _ _ _ _ _ c.answer_written.ensures.answered
