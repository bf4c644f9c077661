-- Emission puts out the blocks of annotated code.
use Rattle.std.proofs.Common.{◌≡◌, ℕ, ◌+◌, ◌-◌, Bool, true, false, ◌&&◌, cond, List, ◌∷◌, []}
use Rattle.std.proofs.Common.{◌++◌, refl, sym, ap, ap₂, ◌∙◌, subst, arith, append_assoc, append-nil}
use Rattle.trips_isa.specs.declared.op.Op.TheVariants.{Mov, Sub}
use Rattle.ir_forms.specs.declared.hyper.Source.TheVariants.{Const, Reg}
use Rattle.ir_forms.specs.inside.Frames.{register_of}
use Rattle.ir_forms.specs.inside.FlatCode.{Step, Let, Frame, Load, Save, Call, Put, Get, If, Loop, Break, Continue}
use Rattle.ir_forms.specs.inside.FlatCode.{Return, Halt, Code, Nop, ◌▹◌}
use Rattle.ir_forms.specs.inside.FlatFits.{steps_in, steps_of, is_empty}
use Rattle.ir_forms.specs.inside.HyperCode.{Block}
use Rattle.ir_forms.specs.inside.HyperRuns.{jump}
use Rattle.reg_assign.specs.inside.Keeps.{calls_in, calls}
use Rattle.hyper_build.specs.declared.emitting.Note.{Note}
use Rattle.hyper_build.specs.inside.Tree.{Tree, goes_on, annotated_in, annotated}
use Rattle.hyper_build.specs.inside.Parts.{source, capped, set_then, load_then, save_then, cut_blocks, cut_size}
use Rattle.hyper_build.specs.inside.Straight.{Place, in_loop}
use Rattle.hyper_build.specs.inside.Legs.{leg_blocks, label_or, post_exit, post_size}
use Rattle.hyper_build.specs.inside.Sizes.{size_in, size, turn_size, part_size}
use Rattle.hyper_build.specs.inside.Entries.{body_end, entry_in, entry, test_entry, part_entry}
use Rattle.hyper_build.specs.inside.Entries.{turn_entry}
use Rattle.hyper_build.specs.inside.Build.{blocks_in, blocks, test_blocks, turn_blocks}
use Rattle.hyper_build.specs.inside.Ground.{Ground, plan, place, entry_at}
use Rattle.hyper_build.specs.inside.Backward.{Emission, with_rest, put_out, cut_at, fall, fall_by, before}
use Rattle.hyper_build.specs.inside.Backward.{last_note, without_note, front_notes}
use Rattle.hyper_build.specs.inside.BackwardStatements.{put_byte, get_byte, leaving}
use Rattle.hyper_build.specs.inside.BackwardItems.{is_straight}
use Rattle.hyper_build.specs.inside.BackwardCode.{is_test_step, end_of_body}
use Rattle.hyper_build.specs.inside.BackwardCode.{is_bare_code, emit_in, emit, test_out, emit_turn}
use Rattle.hyper_build.specs.inside.Notes.{note_of, notes_in, notes_of, test_notes, turn_notes}
use Rattle.hyper_build.specs.inside.Reached.{Reached, IsReached}
use Rattle.hyper_build.proofs.ItemLegs.{and_parts, no_calls, no_notes}
use Rattle.hyper_build.proofs.LoopPosts.{bare_is, bare_straight}
use Rattle.hyper_build.proofs.Reaching.{joined, mapped, restated, one_less, before_reached}
use Rattle.hyper_build.proofs.Reaching.{cut_reached, call_reached}
use Rattle.hyper_build.proofs.ReachingTests.{by_kind, IsTestReached, loop_test_reached}
use Rattle.hyper_build.proofs.LoopTests.{loop_test_is}
use Rattle.hyper_build.proofs.LastNotes.{last_behind, front_before}
use Rattle.hyper_build.proofs.IfEmissions.{end_is, if_place, all_reached}

-- LOOPS

abbrev IsTurnReached : Ground → ℕ → ℕ → Code → Type 0
IsTurnReached g b a c =
    (s : Emission) (l i k : ℕ) (N : List Note) → s.label ≡ l + turn_size (annotated (plan g) i k c)
    → s.place ≡ i + steps_of c → s.calls ≡ k + calls c → s.notes ≡ N ++ turn_notes (plan g) l i k c
    → Reached s.out (emit_turn g b a c s) l i k N
    (turn_blocks (place g b a) (annotated (plan g) i k c) l s.rest)
    (turn_entry (place g b a) (annotated (plan g) i k c) l s.rest)

-- what emission does at a loop, by whether its last part has no block of its own
abbrev loop_by : Bool → Ground → Code → Code → Note → Emission → Emission
loop_by bare g body post note behind =
    let ends = (plan g).cut note.place in
    let start = with_rest (jump note.head) (without_note behind) in
    let next = put_out (emit g behind.label note.next post start) in
    cond bare
    (fall (put_out (emit_turn g behind.label note.head body
    (with_rest (end_of_body ends g.arrays post note.head note.head) (fall_by (steps_of post) start)))))
    (fall (put_out (emit_turn g behind.label next.label body
    (with_rest (end_of_body ends g.arrays post next.label note.head) next))))

-- and the blocks
abbrev loop_blocks : Bool → Place → Bool → Tree → Tree → ℕ → Block → List Block
loop_blocks bare p c body post l k =
    let next = l + 1 + turn_size body in
    let out = post_exit bare l in
    let again = label_or next out in
    let q = in_loop p (next + post_size bare (size post)) again in
    let after = body_end q c post again l in
    turn_entry q body (l + 1) after
    ∷ (turn_blocks q body (l + 1) after
    ++ (leg_blocks out (entry q post (next + 1) (jump l)) (blocks q post (next + 1) (jump l)) ++ k ∷ []))

loop_reached : (bare : Bool) (g : Ground) (b a : ℕ) (body post : Code) (note : Note) (l i k : ℕ)
    (N : List Note) (behind : Emission) (top : Block) (o : List Block)
    → ((broke again : ℕ) → IsTurnReached g broke again body)
    → ((broke again : ℕ) → IsReached g broke again post)
    → (bare ≡ true → is_straight post ≡ true)
    → behind.label ≡ l + 1 + turn_size (annotated (plan g) (i + 1) k body)
    + post_size bare (size (annotated (plan g) (i + 1 + steps_of body) (k + calls body) post))
    → behind.place ≡ i + 1 + steps_of body + steps_of post
    → behind.calls ≡ k + calls body + calls post → behind.out ≡ top ∷ o
    → note ≡ note_of l i (label_or (l + 1 + turn_size (annotated (plan g) (i + 1) k body)) (post_exit bare l))
    → front_notes behind.notes ≡ (N ++ turn_notes (plan g) (l + 1) (i + 1) k body)
    ++ notes_of (plan g) (l + 1 + turn_size (annotated (plan g) (i + 1) k body) + 1)
    (i + 1 + steps_of body) (k + calls body) post
    → Reached o (loop_by bare g body post note behind) l i k N
    (loop_blocks bare (place g b a) ((plan g).cut i) (annotated (plan g) (i + 1) k body)
    (annotated (plan g) (i + 1 + steps_of body) (k + calls body) post) l top)
    (jump l)
loop_reached true g b a body post note l i k N behind top o f1 f2 es el ei ek eo ex en =
    let C = annotated (plan g) (i + 1) k body in
    let next = l + 1 + turn_size C in
    let br = next + 0 in
    let start = with_rest (jump note.head) (without_note behind) in
    let bl = behind.label in
    let hd = note.head in
    let cuts = (plan g).cut note.place in
    let after = end_of_body cuts g.arrays post hd hd in
    let s1 = with_rest after (fall_by (steps_of post) start) in
    let t1 = emit_turn g bl hd body s1 in
    let u = put_out t1 in
    let n1 = turn_notes (plan g) (l + 1) (i + 1) k body in
    let none = no_notes (plan g) (next + 1) (i + 1 + steps_of body) (k + calls body) post (es refl) in
    let few = no_calls post (es refl) in
    let r1 = f1 bl hd s1 (l + 1) (i + 1) k N (el ∙ omega arith) (omega (arith, ei)) (omega (arith, ek, few))
    (en ∙ ap (λ y. (N ++ n1) ++ y) none ∙ append-nil (N ++ n1)) in
    let eul : u.label ≡ l = one_less t1.label l r1.label in
    let head : note.head ≡ l = ap (λ (x : Note). x.head) ex in
    let np : note.place ≡ i = ap (λ (x : Note). x.place) ex in
    let ecut : cuts ≡ (plan g).cut i = ap (plan g).cut np in
    let X = λ (m n : ℕ) (y : Block). turn_entry (place g m n) C (l + 1) y in
    let Y = λ (m n : ℕ) (y : Block). turn_blocks (place g m n) C (l + 1) y in
    let B = λ (m n : ℕ) (y : Block). X m n y ∷ (Y m n y ++ top ∷ []) in
    let out : u.out ≡ B bl hd after ++ o =
    ap₂ (λ y z. y ∷ z) r1.rest (r1.out ∙ ap (λ y. Y bl hd after ++ y) eo
    ∙ sym (append_assoc (Y bl hd after) (top ∷ []) o)) in
    let e1 = ap (λ (y : Bool). B bl hd (end_of_body y g.arrays post hd hd)) ecut in
    let F = λ (m n : ℕ). B m n (end_of_body ((plan g).cut i) g.arrays post n n) in
    let e2 = ap (λ m. F m hd) el in
    let e3 = ap (λ n. F br n) head in
    let e4 = ap (λ y. B br l y)
    (sym (end_is g (place g br l) ((plan g).cut i) (i + 1 + steps_of body) (k + calls body) post l l)) in
    record {
      label = eul;
      place = one_less u.place i r1.place;
      calls = r1.calls;
      notes = r1.notes;
      out = out ∙ ap (λ y. y ++ o) (e1 ∙ e2 ∙ e3 ∙ e4);
      rest = ap jump eul;
    }
loop_reached false g b a body post note l i k N behind top o f1 f2 es el ei ek eo ex en =
    let C = annotated (plan g) (i + 1) k body in
    let D = annotated (plan g) (i + 1 + steps_of body) (k + calls body) post in
    let next = l + 1 + turn_size C in
    let br = next + (1 + size D) in
    let start = with_rest (jump note.head) (without_note behind) in
    let bl = behind.label in
    let t2 = emit g bl note.next post start in
    let nx = put_out t2 in
    let cuts = (plan g).cut note.place in
    let after = end_of_body cuts g.arrays post nx.label note.head in
    let s1 = with_rest after nx in
    let nl = nx.label in
    let t1 = emit_turn g bl nl body s1 in
    let u = put_out t1 in
    let n1 = turn_notes (plan g) (l + 1) (i + 1) k body in
    let r2 = f2 bl note.next start (next + 1) (i + 1 + steps_of body) (k + calls body) (N ++ n1)
    (el ∙ omega arith) ei ek en in
    let enl : nl ≡ next = one_less t2.label next r2.label in
    let r1 = f1 bl nl s1 (l + 1) (i + 1) k N (enl ∙ omega arith) r2.place r2.calls r2.notes in
    let eul : u.label ≡ l = one_less t1.label l r1.label in
    let head : note.head ≡ l = ap (λ (y : Note). y.head) ex in
    let np : note.place ≡ i = ap (λ (y : Note). y.place) ex in
    let after_is : note.next ≡ next = ap (λ (y : Note). y.next) ex in
    let ecut : cuts ≡ (plan g).cut i = ap (plan g).cut np in
    let Z = λ (m n q : ℕ). entry (place g m n) D (next + 1) (jump q) in
    let W = λ (m n q : ℕ). blocks (place g m n) D (next + 1) (jump q) in
    let X = λ (m n : ℕ) (y : Block). turn_entry (place g m n) C (l + 1) y in
    let Y = λ (m n : ℕ) (y : Block). turn_blocks (place g m n) C (l + 1) y in
    let P = λ (m n q : ℕ). Z m n q ∷ (W m n q ++ top ∷ []) in
    let B = λ (m n z q : ℕ) (y : Block). X m n y ∷ (Y m n y ++ P m z q) in
    let behind_out : nx.out ≡ P bl note.next note.head ++ o =
    ap₂ (λ y z. y ∷ z) r2.rest (r2.out ∙ ap (λ y. W bl note.next note.head ++ y) eo
    ∙ sym (append_assoc (W bl note.next note.head) (top ∷ []) o)) in
    let out : u.out ≡ B bl nl note.next note.head after ++ o =
    ap₂ (λ y z. y ∷ z) r1.rest (r1.out ∙ ap (λ y. Y bl nl after ++ y) behind_out
    ∙ sym (append_assoc (Y bl nl after) (P bl note.next note.head) o)) in
    let end = λ (n q : ℕ) (y : Bool). end_of_body y g.arrays post n q in
    let e1 = ap (λ y. B bl nl note.next note.head (end nl note.head y)) ecut in
    let F = λ (m n z q : ℕ). B m n z q (end_of_body ((plan g).cut i) g.arrays post n q) in
    let e2 = ap (λ m. F m nl note.next note.head) el in
    let e3 = ap (λ n. F br n note.next note.head) enl in
    let e4 = ap (λ z. F br next z note.head) after_is in
    let e5 = ap (λ q. F br next next q) head in
    let e6 = ap (λ y. B br next next l y)
    (sym (end_is g (place g br next) ((plan g).cut i) (i + 1 + steps_of body) (k + calls body) post next l)) in
    record {
      label = eul;
      place = one_less u.place i r1.place;
      calls = r1.calls;
      notes = r1.notes;
      out = out ∙ ap (λ y. y ++ o) (e1 ∙ e2 ∙ e3 ∙ e4 ∙ e5 ∙ e6);
      rest = ap jump eul;
    }

-- ALL CODE

-- what goes on behind is put out, and a statement less stands before
passed : (on : Bool) (s : Emission) (l i k : ℕ) (N : List Note) (r : Block) → s.label ≡ l + cut_size on
    → s.place ≡ i + 1 → s.calls ≡ k → s.notes ≡ N
    → Reached s.out (leaving r (cut_at on s)) l i k N (cut_blocks on s.rest) r
passed on s l i k N r el ei ek en =
    let q = cut_reached on s l (i + 1) k N el ei ek en in
    record {
      label = q.label;
      place = one_less (cut_at on s).place i q.place;
      calls = q.calls;
      notes = q.notes;
      out = q.out;
      rest = refl;
    }

mutual
  pub step_reached : (g : Ground) (b a : ℕ) (on : Bool) (x : Step) (s : Emission) (l i k : ℕ)
      (N : List Note) → s.label ≡ l + size_in (annotated_in (plan g) i k on x) → s.place ≡ i + steps_in x
      → s.calls ≡ k + calls_in x → s.notes ≡ N ++ notes_in (plan g) l i k x
      → Reached s.out (emit_in g b a on x s) l i k N
      (blocks_in (place g b a) (annotated_in (plan g) i k on x) l s.rest)
      (entry_in (place g b a) (annotated_in (plan g) i k on x) l s.rest)
  step_reached g b a on (Let to op x y) s l i k N el ei ek en =
      mapped (set_then (register_of to) op (source x) (source y))
      (before_reached (plan g) s l i k N el ei (omega (arith, ek)) (en ∙ append-nil N))
  step_reached g b a on (Frame to at) s l i k N el ei ek en =
      mapped (set_then (register_of to) Sub (Reg 1) (Const (capped (g.arrays - at))))
      (before_reached (plan g) s l i k N el ei (omega (arith, ek)) (en ∙ append-nil N))
  step_reached g b a on (Load to op x) s l i k N el ei ek en =
      mapped (load_then (register_of to) op (source x))
      (before_reached (plan g) s l i k N el ei (omega (arith, ek)) (en ∙ append-nil N))
  step_reached g b a on (Save op x y) s l i k N el ei ek en =
      mapped (save_then op (source x) (source y))
      (before_reached (plan g) s l i k N el ei (omega (arith, ek)) (en ∙ append-nil N))
  step_reached g b a on (Call f args to kept) s l i k N el ei ek en =
      call_reached (plan g) g.frame (entry_at g.entries f) args to s l i k N el ei ek
      (en ∙ append-nil N)
  step_reached g b a on (Put v) s l i k N el ei ek en =
      let e = one_less s.label l el in
      record {
        label = e;
        place = one_less s.place i ei;
        calls = omega (arith, ek);
        notes = en ∙ append-nil N;
        out = refl;
        rest = ap (put_byte v) e;
      }
  step_reached g b a on (Get to) s l i k N el ei ek en =
      let r = before_reached (plan g) s (l + 1) i k N (omega (arith, el)) ei (omega (arith, ek))
      (en ∙ append-nil N) in
      let t = before (plan g) s in
      let e = one_less t.label l r.label in
      record {
        label = e;
        place = r.place;
        calls = r.calls;
        notes = r.notes;
        out = ap₂ (λ x y. set_then (register_of to) Mov (Reg 3) (Const 0) x ∷ y) r.rest r.out;
        rest = ap get_byte e;
      }
  step_reached g b a on (If x one other) s l i k N el ei ek en =
      all_reached g b a on x one other s l i k N (reached g b a one) (reached g b a other) el ei ek en
  step_reached g b a on (Loop body post) s l i k N el ei ek en =
      let behind = put_out s in
      let cut_ = (plan g).cut i in
      let C = annotated (plan g) (i + 1) k body in
      let D = annotated (plan g) (i + 1 + steps_of body) (k + calls body) post in
      let bare = is_bare_code cut_ body post in
      let same = bare_is (plan g) (i + 1) k (i + 1 + steps_of body) (k + calls body) cut_ body post in
      let e = one_less s.label (l + 1 + turn_size C + post_size bare (size D))
      (el ∙ ap (λ y. l + (1 + (turn_size C + (post_size y (size D) + 1)))) same ∙ omega arith) in
      let nx = l + 1 + turn_size C in
      let n1 = turn_notes (plan g) (l + 1) (i + 1) k body in
      let n2 = notes_of (plan g) (nx + 1) (i + 1 + steps_of body) (k + calls body) post in
      let x = note_of l i (label_or nx (post_exit bare l)) in
      let M = (N ++ n1) ++ n2 in
      let all : s.notes ≡ M ++ x ∷ [] =
      en ∙ sym (append_assoc N n1 (n2 ++ x ∷ [])) ∙ sym (append_assoc (N ++ n1) n2 (x ∷ [])) in
      let note = last_note behind.notes in
      let ex : note ≡ x = ap last_note all ∙ last_behind M x in
      restated
      (ap (λ m. loop_by (is_bare_code ((plan g).cut m) body post) g body post note behind)
      (ap (λ (y : Note). y.place) ex))
      (ap (λ z. loop_blocks z (place g b a) cut_ C D l s.rest) same) refl
      (loop_reached bare g b a body post note l i k N behind s.rest s.out
      (λ broke again. turn_reached g broke again body) (λ broke again. reached g broke again post)
      (bare_straight cut_ body post) e (omega (arith, ei)) (omega (arith, ek)) refl ex
      (ap front_notes all ∙ front_before M x))
  step_reached g b a on Break s l i k N el ei ek en =
      passed on s l i k N _ el ei (omega (arith, ek)) (en ∙ append-nil N)
  step_reached g b a on Continue s l i k N el ei ek en =
      passed on s l i k N _ el ei (omega (arith, ek)) (en ∙ append-nil N)
  step_reached g b a on (Return v) s l i k N el ei ek en =
      passed on s l i k N _ el ei (omega (arith, ek)) (en ∙ append-nil N)
  step_reached g b a on (Halt v) s l i k N el ei ek en =
      passed on s l i k N _ el ei (omega (arith, ek)) (en ∙ append-nil N)

  -- emission of code reaches its annotated blocks
  pub reached : (g : Ground) (b a : ℕ) (c : Code) → IsReached g b a c
  reached g b a Nop s l i k N el ei ek en =
      record {
        label = omega (arith, el);
        place = omega (arith, ei);
        calls = omega (arith, ek);
        notes = en ∙ append-nil N;
        out = refl;
        rest = refl;
      }
  reached g b a (x ▹ c) s l i k N el ei ek en =
      let m = emit g b a c s in
      let S = annotated_in (plan g) i k (goes_on c) x in
      let l2 = l + size_in S in
      let n1 = notes_in (plan g) l i k x in
      let n2 = notes_of (plan g) l2 (i + steps_in x) (k + calls_in x) c in
      let p = reached g b a c s l2 (i + steps_in x) (k + calls_in x) (N ++ n1) (omega (arith, el))
      (omega (arith, ei)) (omega (arith, ek)) (en ∙ sym (append_assoc N n1 n2)) in
      let q = step_reached g b a (goes_on c) x m l i k N p.label p.place p.calls p.notes in
      joined (λ y. blocks_in (place g b a) S l y) (λ y. entry_in (place g b a) S l y) p q

  test_reached_in : (g : Ground) (b a : ℕ) (x : Step) → IsTestReached g b a x
  test_reached_in g b a (If x one other) = reached g b a one
  test_reached_in g b a _ = tt

  turn_reached : (g : Ground) (b a : ℕ) (c : Code) → IsTurnReached g b a c
  turn_reached g b a Nop s l i k N el ei ek en =
      record {
        label = omega (arith, el);
        place = omega (arith, ei);
        calls = omega (arith, ek);
        notes = en ∙ append-nil N;
        out = refl;
        rest = refl;
      }
  turn_reached g b a (x ▹ c) s l i k N el ei ek en =
      let p = place g b a in
      let on = goes_on c in
      let m = emit_turn g b a c s in
      let S = annotated_in (plan g) i k on x in
      let C = annotated (plan g) (i + steps_in x) (k + calls_in x) c in
      let test = is_test_step ((plan g).joined i) x in
      let z = is_empty c && test in
      let l2 = l + part_size z S in
      let n1 = cond z (test_notes (plan g) l i k x) (notes_in (plan g) l i k x) in
      let n2 = turn_notes (plan g) l2 (i + steps_in x) (k + calls_in x) c in
      let e = loop_test_is (plan g) i k x c in
      let r1 = turn_reached g b a c s l2 (i + steps_in x) (k + calls_in x) (N ++ n1)
      (el ∙ ap (λ y. l + (part_size y S + turn_size C)) e ∙ omega arith)
      (omega (arith, ei)) (omega (arith, ek)) (en ∙ sym (append_assoc N n1 n2)) in
      let sized = λ (y : Bool) (q : z ≡ y). r1.label ∙ ap (λ y. l + part_size y S) q in
      let noted = λ (y : Bool) (q : z ≡ y).
      r1.notes ∙ ap (λ y. N ++ cond y (test_notes (plan g) l i k x) (notes_in (plan g) l i k x)) q in
      let r2 = by_kind z m.out (test_out g b a x m) (emit_in g b a on x m) l i k N (test_blocks p S l m.rest)
      (blocks_in p S l m.rest) (test_entry p S l m.rest) (entry_in p S l m.rest)
      (λ q. loop_test_reached g b a on ((plan g).joined i) x (and_parts (is_empty c) test q).1
      (test_reached_in g b a x) m l i k N (sized true q) r1.place r1.calls (noted true q))
      (λ q. step_reached g b a on x m l i k N (sized false q) r1.place r1.calls (noted false q)) in
      let h : m.place - steps_in x ≡ i = if_place i (steps_in x) m r1.place in
      let r3 = restated (ap (λ j. cond (is_empty c && is_test_step ((plan g).joined j) x) (test_out g b a x m)
      (emit_in g b a on x m)) h) refl refl r2 in
      let r4 = joined (λ y. cond z (test_blocks p S l y) (blocks_in p S l y)) (λ y. part_entry z p S l y) r1 r3 in
      subst (λ y. Reached s.out (emit_turn g b a (x ▹ c) s) l i k N
      (cond y (test_blocks p S l (turn_entry p C (l + part_size y S) s.rest))
      (blocks_in p S l (turn_entry p C (l + part_size y S) s.rest))
      ++ turn_blocks p C (l + part_size y S) s.rest)
      (part_entry y p S l (turn_entry p C (l + part_size y S) s.rest)))
      (sym e) r4
