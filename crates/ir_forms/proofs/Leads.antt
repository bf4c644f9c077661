-- Runs of the flat form without their bounds: what a run does after some turns, for all bounds that
-- suffice.
use Rattle.std.proofs.Common.{◌≡◌, ℕ, ◌+◌, ◌<◌, ◌≤◌, List, refl, ◌∙◌, arith}
use Rattle.ir_forms.specs.inside.FlatSteps.{Res, Unfinished}

-- a run, by what bounds its calls, what bounds its loop, and the turns that are left
abbrev pub Run : Type 0
Run = ℕ → ℕ → ℕ → Res

-- after t turns it is where g says, whatever turns are left
pub record Leads (run : Run) (t : ℕ) (g : ℕ → Res) : Type 0 where
  pub by : (k m d j : ℕ) → m ≡ t + k → m ≤ d → m < j → run d j m ≡ g k

-- with t turns it has not ended
pub record Stops (run : Run) (t : ℕ) (out : List ℕ) (r : ℕ) : Type 0 where
  pub by : (d j : ℕ) → t ≤ d → t < j → run d j t ≡ Unfinished out r

-- after t turns it is another run
pub record Moves (run : Run) (t : ℕ) (next : Run) : Type 0 where
  pub by : (k m d j : ℕ) → m ≡ t + k → m ≤ d → m < j → (i : ℕ) × (k < i) × (run d j m ≡ next d i k)

-- with no turn it has done nothing
pub record Waits (run : Run) (out : List ℕ) (r : ℕ) : Type 0 where
  pub by : (d j : ℕ) → 0 < j → run d j 0 ≡ Unfinished out r

-- where the run that follows leads, the whole leads
pub leads_from : (run next : Run) (t u : ℕ) (g : ℕ → Res) → Moves run t next → Leads next u g
    → Leads run (t + u) g
leads_from run next t u g m l = record {
  by = λ k x d j q le lt.
      let a = m.by (u + k) x d j (omega arith) le lt in
      a.2 ∙ l.by k (u + k) d a.0 refl (omega arith) a.1;
}

-- where the run that follows has not ended, the whole has not
pub stops_from : (run next : Run) (t u : ℕ) (out : List ℕ) (r : ℕ) → Moves run t next
    → Stops next u out r
    → Stops run (t + u) out r
stops_from run next t u out r m l = record {
  by = λ d j le lt.
      let a = m.by u (t + u) d j refl le lt in
      a.2 ∙ l.by d a.0 (omega arith) a.1;
}

-- one run after another
pub moves_from : (run next last : Run) (t u : ℕ) → Moves run t next → Moves next u last
    → Moves run (t + u) last
moves_from run next last t u m l = record {
  by = λ k x d j q le lt.
      let a = m.by (u + k) x d j (omega arith) le lt in
      let b = l.by k (u + k) d a.0 refl (omega arith) a.1 in
      (b.0, b.1, a.2 ∙ b.2);
}

-- a run that waits has not ended with no turn
pub waits_stop : (run : Run) (out : List ℕ) (r : ℕ) → Waits run out r → Stops run 0 out r
waits_stop run out r w = record { by = λ d j le lt. w.by d j lt }
