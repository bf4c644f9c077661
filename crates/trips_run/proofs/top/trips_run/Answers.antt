use Rattle.trips_answers.proofs.Causes as causes
use Rattle.trips_answers.proofs.Promises as promises
use Rattle.trips_answers.proofs.Reported as reported
use Rattle.trips_run.proofs.top.trips_run.Goals as goal

pub returns-clause-headline : goal.returns-clause-headline
returns-clause-headline g c =
    λ most n text input output value steps program call is done enough. reported.headline _ _ _ _ _ _ _
    c.answer_words.ensures.answered most n text input output value steps program call.asks is done enough
    call.undisturbed.read call.undisturbed.written call.memory

pub returns-clause-deep : goal.returns-clause-deep
returns-clause-deep g c =
    λ most n text input output program call is full enough. reported.deep _ _ _ _ _ _ _
    c.answer_words.ensures.answered most n text input output program call.asks is full enough
    call.undisturbed.read call.undisturbed.written call.memory

pub returns-clause-text_run : goal.returns-clause-text_run
returns-clause-text_run g c =
    λ most show text input program call is. promises.text_run _ _ _ _ _ _ _ c.answer_words.ensures.answered
    most show text input program call.asks is call.undisturbed.read call.undisturbed.written call.memory

pub returns-clause-image_run : goal.returns-clause-image_run
returns-clause-image_run g c =
    λ how most show bytes input image call is. promises.image_run _ _ _ _ _ _ _ c.answer_words.ensures.answered
    how most show bytes input image call.asks is call.undisturbed.read call.undisturbed.written call.memory

pub returns-clause-evaluation : goal.returns-clause-evaluation
returns-clause-evaluation g c =
    λ how most text input program call is. reported.evaluation _ _ _ _ _ _ _ c.answer_words.ensures.answered
    how most text input program call.asks is call.undisturbed.read call.undisturbed.written call.memory

pub returns-clause-compiled : goal.returns-clause-compiled
returns-clause-compiled g c =
    λ how most show text input program call is. promises.compiled _ _ _ _ _ _ _ c.answer_words.ensures.answered
    how most show text input program call.asks is call.undisturbed.read call.undisturbed.written call.memory

pub returns-clause-listed : goal.returns-clause-listed
returns-clause-listed g c =
    λ how most show text input program call is. promises.listed _ _ _ _ _ _ _ c.answer_words.ensures.answered
    how most show text input program call.asks is call.undisturbed.read call.undisturbed.written call.memory

pub returns-clause-made : goal.returns-clause-made
returns-clause-made g c =
    λ work how most show bytes input made call is. promises.made _ _ _ _ _ _ _ c.answer_words.ensures.answered
    work how most show bytes input made call.asks is call.undisturbed.read call.undisturbed.written call.memory

pub returns-clause-trapped : goal.returns-clause-trapped
returns-clause-trapped g c =
    λ file how most show text input told call is. promises.trapped _ _ _ _ _ _ _ c.answer_words.ensures.answered
    file how most show text input told call.asks is call.undisturbed.read call.undisturbed.written call.memory

pub returns-clause-recorded : goal.returns-clause-recorded
returns-clause-recorded g c =
    λ how most show bytes input image call is. promises.recorded _ _ _ _ _ _ _ c.answer_words.ensures.answered
    how most show bytes input image call.asks is call.undisturbed.read call.undisturbed.written call.memory

pub returns-clause-verified : goal.returns-clause-verified
returns-clause-verified g c =
    λ how most show bytes input trace image call told is. promises.verified _ _ _ _ _ _ _
    c.answer_words.ensures.answered how most show bytes input trace image call.asks told is
    call.undisturbed.read call.undisturbed.written call.memory

pub returns-clause-saved : goal.returns-clause-saved
returns-clause-saved g c =
    λ how most show bytes input image call is. promises.saved _ _ _ _ _ _ _ c.answer_words.ensures.answered
    how most show bytes input image call.asks is call.undisturbed.read call.undisturbed.written call.memory

pub returns-clause-saved_text : goal.returns-clause-saved_text
returns-clause-saved_text g c =
    λ most show text input program call is. promises.saved_text _ _ _ _ _ _ _ c.answer_words.ensures.answered
    most show text input program call.asks is call.undisturbed.read call.undisturbed.written call.memory

pub returns-clause-resumed : goal.returns-clause-resumed
returns-clause-resumed g c =
    λ most show bytes input image t call saves. promises.resumed _ _ _ _ _ _ _ c.answer_words.ensures.answered
    most show bytes input image t call.asks saves call.undisturbed.read call.undisturbed.written call.memory

pub returns-clause-fours : goal.returns-clause-fours
returns-clause-fours g c =
    λ how most show bytes input others call told can. promises.fours _ _ _ _ _ _ _ c.answer_words.ensures.answered
    how most show bytes input others call.asks told can call.undisturbed.read call.undisturbed.written call.memory

pub returns-clause-drawn : goal.returns-clause-drawn
returns-clause-drawn g c =
    λ how most show bytes input image call is. promises.drawn _ _ _ _ _ _ _ c.answer_words.ensures.answered
    how most show bytes input image call.asks is call.undisturbed.read call.undisturbed.written call.memory

pub returns-clause-drawn_text : goal.returns-clause-drawn_text
returns-clause-drawn_text g c =
    λ most show text input program call is. promises.drawn_text _ _ _ _ _ _ _ c.answer_words.ensures.answered
    most show text input program call.asks is call.undisturbed.read call.undisturbed.written call.memory

pub returns-clause-too_large : goal.returns-clause-too_large
returns-clause-too_large g c =
    λ q is large undisturbed some. promises.too_large _ _ _ _ _ _ _ c.answer_words.ensures.answered q is large
    undisturbed.read undisturbed.written some

pub returns-clause-unfit : goal.returns-clause-unfit
returns-clause-unfit g c =
    promises.unfit _ _ _ _ _ _ _ c.answer_words.ensures.answered

pub returns-clause-causes : goal.returns-clause-causes
returns-clause-causes g c =
    promises.has_causes _ _ _ _ _ _ _ c.answer_words.ensures.answered

pub returns-clause-ends : goal.returns-clause-ends
returns-clause-ends g c =
    promises.ends _ _ _ _ _ _ _ c.answer_words.ensures.answered

pub returns-clause-text_ends : goal.returns-clause-text_ends
returns-clause-text_ends g c =
    causes.text_ends _ _ _ _ _ _ _ c.answer_words.ensures.answered

pub returns-clause-result_tells : goal.returns-clause-result_tells
returns-clause-result_tells g c =
    promises.result _ _ _ _ _ _ _ c.answer_words.ensures.answered

pub returns-clause-answered : goal.returns-clause-answered
returns-clause-answered g c =
    promises.answered _ _ _ _ _ _ _ c.answer_words.ensures.answered
