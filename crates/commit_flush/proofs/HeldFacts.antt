-- Which events leave the registers of a frame: all but the delivery of a token to a write.
use Rattle.std.proofs.Common.{◌≡◌, ℕ, ◌+◌, ◌*◌, true, List, Option, Some, None, slice_get, set, refl}
use Rattle.trips_isa.specs.declared.block.Inst.{Inst}
use Rattle.trips_isa.specs.declared.block.Block.{Block}
use Rattle.trips_isa.specs.declared.form.Form.{Form}
use Rattle.trips_isa.specs.declared.form.Form.TheVariants.{General, Immediate, Load, Store, Branch, Constant}
use Rattle.trips_isa.specs.Forms.{form_of}
use Rattle.trips_isa.specs.Rule.{Answer}
use Rattle.block_cases.specs.Orders.{slot_of}
use Rattle.commit_flush_spec.specs.Frames.{Frame, at}
use Rattle.commit_flush_spec.specs.Sending.{send, token_with}
use Rattle.commit_flush_spec.specs.Older.{Older}
use Rattle.commit_flush_spec.specs.Dataflow.{read, read_seen, read_answered, fire, fire_form, fire_inst}
use Rattle.commit_flush_spec.specs.Memory.{load, load_answered, request, taken_of}
use Rattle.commit_flush_spec.specs.Ends.{seal}
use Rattle.commit_flush_spec.specs.Dropping.{with_resolved}
use Rattle.commit_flush_spec.specs.inside.Dropping.{stored_alone, exited_alone}
use Rattle.commit_flush.specs.inside.Banked.{held}

-- what is sent changes no register
sent_held : (x p : ℕ) (t : Answer) (f : Frame) (r : ℕ) → held (send x p t f) r ≡ held f r
sent_held x p None f r = refl
sent_held x p (Some t) f r = refl

-- a Read leaves what a frame has for each register
pub read_held : (q : ℕ) (o : Older) (f : Frame) (r : ℕ) → held (read q o f) r ≡ held f r
read_held q o f r = go (read_seen o (slice_get f.code.reads.items q))
  where
    go : (v : Option ℕ) → held (read_answered q v f) r ≡ held f r
    go None = refl
    go (Some v) = sent_held q (256 + 2 * q) (token_with f q v) (record f { reads = set f.reads q true }) r

-- a Fire leaves what a frame has for each register
pub fire_held : (s : ℕ) (o : Older) (f : Frame) (r : ℕ) → held (fire s o f) r ≡ held f r
fire_held s o f r = inst (slot_of f.code s)
  where
    form : (t : Form) (i : Inst) → held (fire_form t i s (record f { fired = set f.fired s true })) r ≡ held f r
    form General i = sent_held _ _ _ (record f { fired = set f.fired s true }) r
    form Immediate i = sent_held _ _ _ (record f { fired = set f.fired s true }) r
    form Constant i = sent_held _ _ _ (record f { fired = set f.fired s true }) r
    form Load i = refl
    form Store i = refl
    form Branch i = refl

    inst : (i : Option Inst) → held (fire_inst i s (record f { fired = set f.fired s true })) r ≡ held f r
    inst None = refl
    inst (Some i) = form (form_of i.op) i

-- a Load leaves what a frame has for each register
pub load_held : (n : ℕ) (o : Older) (f : Frame) (r : ℕ) → held (load n o f) r ≡ held f r
load_held n o f r = go (request f n)
  where
    go : (q : Option (ℕ × Inst)) → held (load_answered n o f q) r ≡ held f r
    go None = refl
    go (Some q) = sent_held _ _ _ (record f {
      requests = set f.requests n None;
      loads = set f.loads n (Some (taken_of q.1 (at f.spots q.0)));
    }) r

-- a Seal leaves what a frame has for each register
pub seal_held : (o : Older) (f : Frame) (r : ℕ) → held (seal o f) r ≡ held f r
seal_held o f r = refl

-- a Store leaves what a frame has for each register
pub store_held : (n : ℕ) (o : Older) (f : Frame) (r : ℕ) → held (stored_alone n o f) r ≡ held f r
store_held n o f r = go (request f n)
  where
    go : (q : Option (ℕ × Inst)) → held (with_resolved n f q) r ≡ held f r
    go None = refl
    go (Some q) = refl

-- an Exit leaves what a frame has for each register
pub exit_held : (blocks : List Block) (o : Older) (f : Frame) (r : ℕ) → held (exited_alone blocks o f) r ≡ held f r
exit_held blocks o f r = refl
