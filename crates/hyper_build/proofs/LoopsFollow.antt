-- A loop does what it means where its body and the part behind it do.
use Rattle.std.proofs.Common.{◌≡◌, ◌⊎◌, inl, inr, ℕ, zero, suc, ◌+◌, Bool, true, false, cond, not, ◌||◌}
use Rattle.std.proofs.Common.{true≢false, [], ◌∷◌, ◌++◌, Some, refl, sym, ap, ◌∙◌, subst, arith, slice_get}
use Rattle.ir_forms.specs.inside.FlatSteps.{State, Res, Gone, Broke, Again, Gave, Halts, Unfinished, Wild}
use Rattle.ir_forms.specs.inside.FlatSteps.{Calls, counted, after_post, after_body}
use Rattle.ir_forms.specs.inside.FlatSteps.{loop_turns, exec}
use Rattle.ir_forms.specs.inside.HyperCode.{Block}
use Rattle.ir_forms.specs.inside.HyperRuns.{Machine, jump}
use Rattle.hyper_build.specs.inside.Tree.{Tree, End, LoopAt, Routine, plain}
use Rattle.hyper_build.specs.inside.Straight.{Place, in_loop, straight, items_of}
use Rattle.hyper_build.specs.inside.Legs.{label_or, leg_blocks, continues, is_bare, post_exit, post_size}
use Rattle.hyper_build.specs.inside.Sizes.{size, turn_size}
use Rattle.hyper_build.specs.inside.Entries.{body_end, entry, turn_entry}
use Rattle.hyper_build.specs.inside.Build.{blocks, turn_blocks}
use Rattle.hyper_build.specs.inside.Merging.{SetsLow}
use Rattle.hyper_build.specs.inside.World.{World, Has, Rel, IsFrame, checks_of, env_in}
use Rattle.hyper_build.specs.inside.Follow.{Way, Follows, ways_of}
use Rattle.hyper_build.specs.inside.Fits.{IsBuilt, FitsTree, IsPlace}
use Rattle.hyper_build.specs.inside.Premises.{StmtDoes, TreeDoes, TurnDoes, AluGivesWords}
use Rattle.hyper_build.proofs.Goes.{goes_here, goes_then, goes_jump}
use Rattle.hyper_build.proofs.Following.{kept_here, follows_then, follows_more, settled, stands_here}
use Rattle.hyper_build.proofs.Following.{has_front, has_back}
use Rattle.hyper_build.proofs.Relates.{rel_counted, kept_same}
use Rattle.hyper_build.proofs.Sizes.{length_blocks, length_turn}
use Rattle.hyper_build.proofs.LoopPosts.{length_post, bare_parts}
use Rattle.hyper_build.proofs.Endings.{IsOther, exec_other}
use Rattle.hyper_build.proofs.LowRegisters.{end_low}
use Rattle.hyper_build.proofs.Straights.{tree_walks, walks_follow}

module _ (W : World) (built : IsBuilt W) (words : AluGivesWords) (call : Calls) (start : ℕ) (g : Routine)
    (fr : IsFrame W start g) where
  abbrev lo : ℕ
  lo = W.base + start + 8

  abbrev Here : Block → State → Machine → ℕ → ℕ → (Way → Block) → Res → Type 0
  Here b s m n x ways r = Follows W (W.base + start + 8) (Rel W start g) b s m n x ways r

  abbrev runs : Tree → State → ℕ → Res
  runs c = exec (checks_of W) call (env_in W start g) (plain c)

  out : (t : State) (m1 : Machine) → Rel W start g t m1 → m1.output ≡ t.output
  out t m1 h = h.stack.output

  -- A LOOP'S PARTS

  -- The body's block goes on with what is behind the body, and no continue leads there.
  abbrev pub IsLone : Bool → Tree → Tree → Type 0
  IsLone c body post = (c || not (straight post) ≡ false) × (continues (plain body) ≡ false)

  -- What is behind the body stands at `again`; or it does nothing and `again` is the head; or nothing leads there.
  abbrev pub IsPart : Place → Bool → Tree → Tree → ℕ → ℕ → ℕ → Type 0
  IsPart p c body post l broke again =
      ((slice_get W.program again ≡ Some (entry (in_loop p broke again) post (again + 1) (jump l)))
      × Has W.program (again + 1) (blocks (in_loop p broke again) post (again + 1) (jump l)))
      ⊎ (((post ≡ End) × (again ≡ l)) ⊎ IsLone c body post)

  part_lacks : (p : Place) (c : Bool) (body post : Tree) (l broke : ℕ)
      → (post ≡ End) ⊎ ((c || not (straight post) ≡ false) × (continues (plain body) ≡ false))
      → IsPart p c body post l broke l
  part_lacks p c body post l broke (inl e) = inr (inl (e, refl))
  part_lacks p c body post l broke (inr e) = inr (inr e)

  part_there : (bare : Bool) (p : Place) (c : Bool) (body post : Tree) (l broke next : ℕ) (k : Block)
      → is_bare c body post ≡ bare
      → Has W.program next (leg_blocks (post_exit bare l)
      (entry (in_loop p broke (label_or next (post_exit bare l))) post (next + 1) (jump l))
      (blocks (in_loop p broke (label_or next (post_exit bare l))) post (next + 1) (jump l)) ++ k ∷ [])
      → IsPart p c body post l broke (label_or next (post_exit bare l))
  part_there true p c body post l broke next k e has = part_lacks p c body post l broke (bare_parts c body post e)
  part_there false p c body post l broke next k e has =
      inl (
        has.0,
        has_front W.program (next + 1) (blocks (in_loop p broke next) post (next + 1) (jump l)) (k ∷ [])
            has.1,
      )

  -- The blocks of a loop whose head has the label l: k stands at `broke`.
  pub record IsLoop (p : Place) (c : Bool) (body post : Tree) (l broke again : ℕ) (k : Block)
      : Type 0
    where
      pub head : slice_get W.program l
          ≡ Some (turn_entry (in_loop p broke again) body (l + 1) (body_end (in_loop p broke again) c post again l))
      pub inner : Has W.program (l + 1)
          (turn_blocks (in_loop p broke again) body (l + 1) (body_end (in_loop p broke again) c post again l))
      pub part : IsPart p c body post l broke again
      pub last : slice_get W.program broke ≡ Some k

  module _ (inside : Bool) (p : Place) (c : Bool) (body post : Tree) (l broke again : ℕ) (k : Block)
      (lp : IsLoop p c body post l broke again k) (place : IsPlace W g p) (fits_body : FitsTree W g true body)
      (fits_post : FitsTree W g false post) (does_body : TurnDoes W call start g body)
      (does_post : TreeDoes W call start g post) where
    q : Place
    q = in_loop p broke again

    q_place : IsPlace W g (in_loop p broke again)
    q_place =
        record { frame = place.frame; arrays = place.arrays; entries = place.entries; low = place.low }

    -- what follows the body leaves alone the register in which its test is kept
    after_low : SetsLow (body_end (in_loop p broke again) c post again l).items
    after_low = end_low W g fr.scalars (λ f r e. (built.fits f r e).few) (in_loop p broke again) c post again l
        fits_post

    -- the part behind the body in a block of its own
    post_jumped : (IsLone c body post → ⊥) → (s : State) (m : Machine) (n : ℕ) → Rel W start g s m
        → Here (jump again) s m n 1 (ways_of (in_loop p broke again) (jump l)) (runs post s n)
    post_jumped wrong s m n rel = go lp.part
      where
        go : IsPart p c body post l broke again
            → Here (jump again) s m n 1 (ways_of (in_loop p broke again) (jump l)) (runs post s n)
        go (inl has) =
            follows_then W (W.base + start + 8) (Rel W start g) (jump again)
            (entry (in_loop p broke again) post (again + 1) (jump l)) s s m m n n 1 1 0
            (ways_of (in_loop p broke again) (jump l)) (runs post s n) (goes_jump W again _ m has.0)
            (kept_here _ s m) (omega arith) (omega arith)
            (does_post false (in_loop p broke again) fits_post q_place (again + 1) (jump l) has.1 s m n rel)
        go (inr (inr lone)) = absurd (wrong lone)
        go (inr (inl (e, a))) =
            let does : TreeDoes W call start g End = subst (λ (c : Tree). TreeDoes W call start g c) e does_post in
            let f = follows_more W (W.base + start + 8) (Rel W start g) (jump l) s m n n 0 1
            (ways_of (in_loop p broke again) (jump l)) (runs End s n) (omega arith)
            (does false (in_loop p broke again) tt q_place l (jump l) tt s m n rel) in
            subst (λ (x : ℕ). Here (jump x) s m n 1 (ways_of (in_loop p broke again) (jump l))
            (runs post s n)) (sym a)
            (subst (λ (c : Tree). Here (jump l) s m n 1 (ways_of (in_loop p broke again) (jump l)) (runs c s n))
            (sym e) f)

    -- or in the same block, where it is items alone
    post_follows : (s : State) (m : Machine) (n : ℕ) → Rel W start g s m
        → Here (body_end (in_loop p broke again) c post again l) s m n 1
        (ways_of (in_loop p broke again) (jump l)) (runs post s n)
    post_follows s m n rel = go (c || not (straight post)) refl
      where
        here : Block
        here = record {
          items = items_of (in_loop p broke again) post (jump l).items;
          tail = (jump l).tail;
        }

        items : straight post ≡ true
            → Here here s m n 1 (ways_of (in_loop p broke again) (jump l)) (runs post s n)
        items e =
            walks_follow W built words call start g fr (items_of (in_loop p broke again) post) (jump l)
            s m n 1 (ways_of (in_loop p broke again) (jump l)) (runs post s n)
            (tree_walks W built words call start g fr false (in_loop p broke again) post e fits_post
            q_place s m n rel) rel.stack.output
            (λ m1. (0, omega arith, goes_here W (jump l) m1))

        is_straight : (a b : Bool) → a || not b ≡ false → b ≡ true
        is_straight true b e = absurd (cc e)
        is_straight false true e = refl
        is_straight false false e = absurd (cc e)

        go : (b : Bool) → c || not (straight post) ≡ b
            → Here (cond b (jump again) here) s m n 1 (ways_of (in_loop p broke again) (jump l))
            (runs post s n)
        go true e = post_jumped (λ z. true≢false (sym e ∙ z.0)) s m n rel
        go false e = items (is_straight c (straight post) e)

    -- what follows the part behind the body, where the next turns do
    post_then : (b : Block) (s : State) (m : Machine) (n x : ℕ) (r : Res) (next : State → ℕ → Res)
        → Here b s m n x (ways_of (in_loop p broke again) (jump l)) r
        → ((s1 : State) (m1 : Machine) (n1 : ℕ) → Rel W start g s1 m1
        → Here (jump l) s1 m1 n1 0 (ways_of p k) (next s1 n1))
        → Here b s m n x (ways_of p k) (after_post r next)
    post_then b s m n x (Gone s1 n1) next f h =
        follows_more W (W.base + start + 8) (Rel W start g) b s m n n (x + 0) x (ways_of p k)
        (next s1 n1) (omega arith)
        (follows_then W (W.base + start + 8) (Rel W start g) b (jump l) s s1 m f.after n n1 f.j x 0
        (ways_of p k) (next s1 n1) f.goes f.kept f.few f.rounds (h s1 f.after n1 f.rel))
    post_then b s m n x (Broke s1 n1) next f h = tt
    post_then b s m n x (Again s1 n1) next f h = tt
    post_then b s m n x (Gave w s1 n1) next f h = f
    post_then b s m n x (Halts how) next f h = f
    post_then b s m n x (Unfinished out r) next f h = f
    post_then b s m n x Wild next f h = tt

    -- what follows the body
    body_then : (b : Block) (s : State) (m : Machine) (n : ℕ) (r : Res) (next : State → ℕ → Res)
        → Here b s m n 0 (ways_of (in_loop p broke again)
        (body_end (in_loop p broke again) c post again l)) r
        → (continues (plain body) ≡ false → IsOther r) → ((s1 : State) (m1 : Machine) (n1 : ℕ) → Rel W start g s1 m1
        → Here (jump l) s1 m1 n1 0 (ways_of p k) (next s1 n1))
        → Here b s m n 1 (ways_of p k) (after_body r (runs post) next)
    body_then b s m n (Gone s1 n1) next f other h =
        let after = body_end (in_loop p broke again) c post again l in
        follows_then W (W.base + start + 8) (Rel W start g) b after s s1 m f.after n n1 f.j 0 1
        (ways_of p k) (after_post (runs post s1 n1) next) f.goes f.kept f.few f.rounds
        (post_then after s1 f.after n1 1 (runs post s1 n1) next
        (post_follows s1 f.after n1 f.rel) h)
    body_then b s m n (Again s1 n1) next f other h =
        follows_then W (W.base + start + 8) (Rel W start g) b (jump again) s s1 m f.after n n1 f.j 0 1
        (ways_of p k) (after_post (runs post s1 n1) next) f.goes f.kept f.few f.rounds
        (post_then (jump again) s1 f.after n1 1 (runs post s1 n1) next
        (post_jumped (λ z. other z.1) s1 f.after n1 f.rel) h)
    body_then b s m n (Broke s1 n1) next f other h =
        settled W (W.base + start + 8) (Rel W start g) b s m n 1 (ways_of p k) s1 n1 out
        (record {
          j = f.j + 1;
          after = f.after;
          goes = goes_then W b (jump broke) k m f.after f.after f.j 1 f.goes
              (goes_jump W broke k f.after lp.last);
          rel = f.rel;
          kept = f.kept;
          given = tt;
          few = omega (arith, f.few);
          rounds = omega (arith, f.rounds);
        })
    body_then b s m n (Gave w s1 n1) next f other h =
        follows_more W (W.base + start + 8) (Rel W start g) b s m n n 0 1 (ways_of p k)
        (Gave w s1 n1) (omega arith) f
    body_then b s m n (Halts how) next f other h =
        follows_more W (W.base + start + 8) (Rel W start g) b s m n n 0 1 (ways_of p k)
        (Halts how) (omega arith) f
    body_then b s m n (Unfinished out r) next f other h =
        follows_more W (W.base + start + 8) (Rel W start g) b s m n n 0 1 (ways_of p k)
        (Unfinished out r) (omega arith) f
    body_then b s m n Wild next f other h = tt

    -- TURNS

    -- at the jump to the head, which is not yet run
    turns_follow : (j : ℕ) (s : State) (m : Machine) (n : ℕ) → Rel W start g s m
        → Here (jump l) s m n 0 (ways_of p k) (loop_turns j (runs body) (runs post) s n)
    turns_follow zero s m n rel = stands_here W (jump l) s m n 0 rel.stack.output
    turns_follow (suc j) s m zero rel = stands_here W (jump l) s m 0 0 rel.stack.output
    turns_follow (suc j) s m (suc n) rel =
        let b = turn_entry (in_loop p broke again) body (l + 1) (body_end (in_loop p broke again) c post again l) in
        let r = after_body (runs body (counted s) n) (runs post) (loop_turns j (runs body) (runs post)) in
        let rel1 = rel_counted W start g s m rel in
        follows_more W (W.base + start + 8) (Rel W start g) (jump l) s m (suc n) n 2 0 (ways_of p k) r
        (omega arith)
        (follows_then W (W.base + start + 8) (Rel W start g) (jump l) b s (counted s) m m n n 1 1 1
        (ways_of p k) r (goes_jump W l b m lp.head)
        (kept_same (W.base + start + 8) s (counted s) m m refl refl) (omega arith) (omega arith)
        (body_then b (counted s) m n (runs body (counted s) n) (loop_turns j (runs body) (runs post))
        (does_body true (in_loop p broke again) fits_body q_place (l + 1)
        (body_end (in_loop p broke again) c post again l) after_low lp.inner (counted s) m n rel1)
        (λ z. exec_other (checks_of W) call (env_in W start g) (plain body) z (counted s) n)
        (λ s1 m1 n1 rel2. turns_follow j s1 m1 n1 rel2)))

  -- a loop does what it means, where its body and the part behind it do
  pub loop_does : (c : Bool) (body post : Tree) → TurnDoes W call start g body
      → TreeDoes W call start g post → StmtDoes W call start g (LoopAt c body post)
  loop_does c body post does_body does_post inside p fits is l k has s m n rel =
      let next = l + 1 + turn_size body in
      let bare = is_bare c body post in
      let broke = next + post_size bare (size post) in
      let again = label_or next (post_exit bare l) in
      let q = in_loop p broke again in
      let after = body_end q c post again l in
      let first = turn_blocks q body (l + 1) after in
      let e = entry q post (next + 1) (jump l) in
      let others = blocks q post (next + 1) (jump l) in
      let second = leg_blocks (post_exit bare l) e others in
      let behind : Has W.program next (second ++ k ∷ []) =
      has_back W.program (l + 1) next first (second ++ k ∷ [])
      (omega (arith, length_turn q body (l + 1) after)) has.1 in
      let last : Has W.program broke (k ∷ []) =
      has_back W.program next broke second (k ∷ [])
      (omega (arith, length_post bare l e others ∙ ap (post_size bare) (length_blocks q post (next + 1) (jump l))))
      behind in
      turns_follow inside p c body post l broke again k
      (record {
        head = has.0;
        inner = has_front W.program (l + 1) first (second ++ k ∷ []) has.1;
        part = part_there bare p c body post l broke next k refl behind;
        last = last.0;
      })
      is fits.0 fits.1 does_body does_post (suc n) s m n rel
