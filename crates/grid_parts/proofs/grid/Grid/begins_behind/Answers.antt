use Rattle.std.proofs.Common.{sym, ap, ◌∙◌}
use Rattle.commit_flush_spec.specs.Older.{committed, successor_of}
use Rattle.grid_cycle_spec.specs.Fetches.{begun_behind}
use Rattle.grid_parts.specs.Seen.{seen}
use Rattle.grid_parts.specs.inside.Asked.{found_in, number_of}
use Rattle.grid_parts.proofs.FrameFacts.{frame_number}
use Rattle.grid_parts.proofs.FetchFacts.{HasNumber, exit_is, known_youngest, next_is, no_exit, not_next}
use Rattle.grid_parts.proofs.grid.Grid.begins_behind.Goals as goal

pub returns-in-Some-successor-clause-change : goal.returns-in-Some-successor-clause-change
returns-in-Some-successor-clause-change g c = λ f e eb y.
    let v = c.args.self.now.window in
    let w = g.V.Windows.held v in
    let here = seen w c.args.self.now.state in
    let x : HasNumber f.exit c.in-Some.exit =
    exit_is f.exit c.in-Some.exit (c.in-Some.ensures ∙ ap (found_in (λ h. number_of h.exit)) e) in
    let known = c.in-Some-successor.ensures ∙ known_youngest f w.frames (committed w.state) y
    ∙ ap successor_of x.is in
    c.begins_known.ensures.change f x.exit (frame_number c.args.frame w.frames f e) x.number
    (next_is c.in-Some-successor.next x.exit known)
    ∙ ap (λ o. begun_behind (g.V.Windows.blocks v) f o here) (sym x.is)

pub returns-in-None-clause-change : goal.returns-in-None-clause-change
returns-in-None-clause-change g c = λ f e eb y.
    let v = c.args.self.now.window in
    let w = g.V.Windows.held v in
    c.begins_guess.ensures.change f eb
    ∙ ap (λ o. begun_behind (g.V.Windows.blocks v) f o (seen w c.args.self.now.state))
    (sym (no_exit f.exit (c.in-None.ensures ∙ ap (found_in (λ h. number_of h.exit)) e)))

pub returns-in-None-successor-clause-change : goal.returns-in-None-successor-clause-change
returns-in-None-successor-clause-change g c = λ f e eb y.
    let w = g.V.Windows.held c.args.self.now.window in
    let x : HasNumber f.exit c.in-Some.exit =
    exit_is f.exit c.in-Some.exit (c.in-Some.ensures ∙ ap (found_in (λ h. number_of h.exit)) e) in
    absurd (not_next x.exit (c.in-None-successor.ensures ∙ known_youngest f w.frames (committed w.state) y
    ∙ ap successor_of x.is))
