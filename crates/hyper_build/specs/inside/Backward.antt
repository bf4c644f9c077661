-- Emission as a pass over flat code, backward: its state, the steps, and the notes of loops. The labels
-- and the numbers of statements and calls fall.
use Rattle.std.specs.Prelude.{ℕ, ◌-◌, Bool, true, false, List, [], ◌∷◌}
use Rattle.trips_isa.specs.declared.op.Op.TheVariants.{Mov}
use Rattle.ir_forms.specs.declared.hyper.Source.{Source}
use Rattle.ir_forms.specs.declared.hyper.Source.TheVariants.{Const}
use Rattle.ir_forms.specs.inside.HyperCode.{Block}
use Rattle.ir_forms.specs.inside.HyperRuns.{jump}
use Rattle.hyper_build.specs.declared.emitting.Note.{Note}
use Rattle.hyper_build.specs.declared.emitting.Emitting.{Emitting}
use Rattle.hyper_build.specs.inside.Emitted.{rest_of, out_of}
use Rattle.hyper_build.specs.inside.Tree.{Plan}
use Rattle.hyper_build.specs.inside.Parts.{set_then}

-- What is put out: the blocks from `label` on, with the rest of the block before them, where `place`
-- statements and `calls` calls stand before. `notes` are those of the loops that end before.
pub record Emission : Type 0 where
  pub label : ℕ
  pub place : ℕ
  pub calls : ℕ
  pub notes : List Note
  pub out : List Block
  -- the end of a block, of which the statements before are still to come in front
  pub rest : Block

-- what the code holds of it, the last block first
abbrev pub emission_of : Emitting → Emission
emission_of e = record {
  label = e.label;
  place = e.place;
  calls = e.calls;
  notes = e.notes;
  out = out_of e.out;
  rest = rest_of e.rest;
}

-- STEPS

-- the rest of the block before becomes another
abbrev pub with_rest : Block → Emission → Emission
with_rest k s = record {
  label = s.label;
  place = s.place;
  calls = s.calls;
  notes = s.notes;
  out = s.out;
  rest = k;
}

-- the rest becomes a block of its own, and what stands before it a jump there
abbrev pub put_out : Emission → Emission
put_out s = record {
  label = s.label - 1;
  place = s.place;
  calls = s.calls;
  notes = s.notes;
  out = s.rest ∷ s.out;
  rest = jump (s.label - 1);
}

-- the block ends here, or it does not
abbrev pub cut_at : Bool → Emission → Emission
cut_at true s = put_out s
cut_at false s = s

-- a statement less stands before
abbrev pub fall : Emission → Emission
fall s = record {
  label = s.label;
  place = s.place - 1;
  calls = s.calls;
  notes = s.notes;
  out = s.out;
  rest = s.rest;
}

-- so many statements less stand before
abbrev pub fall_by : ℕ → Emission → Emission
fall_by n s = record {
  label = s.label;
  place = s.place - n;
  calls = s.calls;
  notes = s.notes;
  out = s.out;
  rest = s.rest;
}

-- a call less stands before
abbrev pub fall_call : Emission → Emission
fall_call s = record {
  label = s.label;
  place = s.place;
  calls = s.calls - 1;
  notes = s.notes;
  out = s.out;
  rest = s.rest;
}

-- before a statement behind which a plan may cut
abbrev pub before : Plan → Emission → Emission
before plan s = cut_at (plan.cut (s.place - 1)) (fall s)

-- before one that has so many statements, itself and those in it
abbrev pub before_by : Plan → ℕ → Emission → Emission
before_by plan n s = cut_at (plan.cut (s.place - n)) (fall_by n s)

-- a register becomes a value before the rest
abbrev pub setting : ℕ → Emission → Source → Emission
setting to s a = with_rest (set_then to Mov a (Const 0) s.rest) s

-- NOTES

-- The note of the last loop before; without notes, zeros.
abbrev pub last_note : List Note → Note
last_note [] = record { head = 0; place = 0; next = 0 }
last_note (x ∷ []) = x
last_note (x ∷ y ∷ more) = last_note (y ∷ more)

-- the notes of the loops before the last
abbrev pub front_notes : List Note → List Note
front_notes [] = []
front_notes (x ∷ []) = []
front_notes (x ∷ y ∷ more) = x ∷ front_notes (y ∷ more)

-- the last note is taken
abbrev pub without_note : Emission → Emission
without_note s = record {
  label = s.label;
  place = s.place;
  calls = s.calls;
  notes = front_notes s.notes;
  out = s.out;
  rest = s.rest;
}
