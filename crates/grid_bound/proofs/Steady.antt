-- Parts (2) to (6) keep the window's invariant, leave the committed state, and do not end the run.
use Rattle.std.proofs.Common.{◌≡◌, ℕ, List, refl, sym, ap, ◌∙◌, subst}
use Rattle.trips_isa.specs.declared.block.Block.{Block}
use Rattle.commit_flush_spec.specs.Window.{Window, Event, happens}
use Rattle.commit_flush_spec.specs.Window as window
use Rattle.commit_flush_spec.specs.inside.Invariant.{AllGood}
use Rattle.commit_flush_spec.specs.inside.Laws.{WindowOk}
use Rattle.commit_flush_spec.proofs.Events.{state_stays}
use Rattle.commit_flush_spec.proofs.Whole.{happens_moves}
use Rattle.grid_cycle_spec.specs.Grid.{Grid}
use Rattle.grid_cycle_spec.specs.Acting.{gone}
use Rattle.grid_cycle_spec.proofs.KeptChanges.{IsSingle, IsFlushing, Kinds, Keeps, every, by_window}
use Rattle.grid_cycle_spec.proofs.Events.{flushed_window, over_stays}

-- a window comes from another by events that commit nothing
pub record Onward (blocks : List Block) (budget : ℕ) (v w : Window) : Type 0 where
  pub state : w.state ≡ v.state
  pub over : w.over ≡ v.over
  pub ok : WindowOk blocks budget v → WindowOk blocks budget w

-- all changes but that a frame commits
abbrev pub onwards : Kinds
onwards = record every { committing = ⊥ }

module _ (blocks : List Block) (budget : ℕ) where
  same_onward : (v w : Window) → w ≡ v → Onward blocks budget v w
  same_onward v w e = record {
    state = ap (λ (w : Window). w.state) e;
    over = ap (λ (w : Window). w.over) e;
    ok = λ ok. subst (WindowOk blocks budget) (sym e) ok;
  }

  -- where two parts commit nothing, both together commit nothing
  pub then_onward : (u v w : Window) → Onward blocks budget u v → Onward blocks budget v w → Onward blocks budget u w
  then_onward u v w a b = record {
    state = b.state ∙ a.state;
    over = b.over ∙ a.over;
    ok = λ ok. b.ok (a.ok ok);
  }

  -- the window of one grid goes on from that of another
  abbrev pub On : {W : Type 0} → Grid W → Grid W → Type 0
  On g h = Onward blocks budget g.window h.window

  module _ (good : AllGood blocks) where
    -- an event other than Commit commits nothing
    pub event_onward : (e : Event) → (e ≡ window.Commit → ⊥) → (v w : Window) → w ≡ happens blocks budget e v
        → Onward blocks budget v w
    event_onward e n v w is = record {
      state = ap (λ (w : Window). w.state) is ∙ state_stays blocks budget e v n;
      over = ap (λ (w : Window). w.over) is ∙ over_stays blocks budget e v n;
      ok = λ ok. subst (WindowOk blocks budget) (sym is) (happens_moves blocks good budget e v ok).ok;
    }

    -- parts (2) to (6) leave the committed state and the run, and keep the window's invariant
    pub steady : {W : Type 0} → Keeps onwards blocks budget (λ (g h : Grid W). On g h)
    steady = by_window onwards blocks budget On (record {
      same = λ g. same_onward g.window g.window refl;
      chain = λ g m h. then_onward g.window m.window h.window;
      quiet = λ g h e c. same_onward g.window h.window e;
      single = λ e l g h is c. event_onward e (λ z. subst IsSingle z l) g.window h.window is;
      flushing = λ e l g. event_onward e (λ z. subst IsFlushing z l) g.window _
          (flushed_window (gone g.window (happens blocks budget e g.window))
          (record g { window = happens blocks budget e g.window }));
      filling = λ c f g may. event_onward (window.Fetch f.block) (λ z. cc) g.window _ refl;
      committing = λ z. absurd z;
      counting = λ c g. same_onward g.window g.window refl;
    })
