-- Every block of annotated code that fits has items that fit, and leads to a block of the program.
use Rattle.std.proofs.Common.{◌≡◌, ℕ, ◌+◌, ◌<◌, ◌≤◌, Bool, true, false, cond, not, []}
use Rattle.std.proofs.Common.{◌||◌, List, ◌∷◌, map, Option, Some, None, refl, sym}
use Rattle.std.proofs.Common.{subst, arith, nat_eq, slice_get, eq-eqb}
use Rattle.std.specs.List.{concat}
use Rattle.reg_assign.specs.inside.Keeps.{is_among}
use Rattle.ir_forms.specs.declared.flat.Arg.{Arg}
use Rattle.ir_forms.specs.declared.hyper.Exit.TheVariants as exit
use Rattle.ir_forms.specs.inside.FlatFits.{FitsReturn}
use Rattle.ir_forms.specs.inside.HyperCode.{Done, Leave, Block}
use Rattle.ir_forms.specs.inside.HyperRuns.{jump}
use Rattle.hyper_build.specs.inside.Tree.{Stmt, LetAt, FrameAt, LoadAt, SaveAt, CallAt, PutAt, GetAt, IfAt}
use Rattle.hyper_build.specs.inside.Tree.{LoopAt, BreakAt, ContinueAt, ReturnAt, HaltAt, Tree, End, ◌▸◌, Routine}
use Rattle.hyper_build.specs.inside.Tree.{is_saved}
use Rattle.hyper_build.specs.inside.Parts.{cut, cut_blocks, cut_size, chain_blocks, chain_size}
use Rattle.hyper_build.specs.inside.Parts.{moved, moved_blocks}
use Rattle.hyper_build.specs.inside.Passing.{saving, restoring, argument_moves, argument_cuts}
use Rattle.hyper_build.specs.inside.Passing.{result_then}
use Rattle.hyper_build.specs.inside.Straight.{Place, in_loop, straight, items_of, is_item}
use Rattle.hyper_build.specs.inside.Legs.{exit_leg, label_or, leg_blocks, leg_size, is_loop_test, is_bare}
use Rattle.hyper_build.specs.inside.Legs.{post_exit, post_size}
use Rattle.hyper_build.specs.inside.Sizes.{arguments_size, size_in, size, test_size, turn_size, part_size}
use Rattle.hyper_build.specs.inside.Entries.{call_block, end_label, give, body_end, choose, entry_in}
use Rattle.hyper_build.specs.inside.Entries.{entry, test_entry, turn_entry}
use Rattle.hyper_build.specs.inside.Build.{blocks_in, blocks, test_blocks, turn_blocks}
use Rattle.hyper_build.specs.inside.World.{World}
use Rattle.hyper_build.specs.inside.Fits.{FitsCallAt, FitsStmt, FitsTree}
use Rattle.hyper_build.proofs.Registers.{lasting_below, or_left}
use Rattle.hyper_build.proofs.Registers.{or_right, among_left, among_right}
use Rattle.hyper_build.proofs.Simple.{variable_small}
use Rattle.hyper_build.proofs.LoopPosts.{post_label, post_room}
use Rattle.hyper_build.proofs.SoundMoves.{Sound, AllSound, sound_append, register_small, source_fits, jump_sound}
use Rattle.hyper_build.proofs.SoundMoves.{cut_sound, cuts_sound, moved_sound, moves_sound, arguments_fit, AllSmall}
use Rattle.hyper_build.proofs.SoundMoves.{GroupsSmall, saving_sound, restoring_sound, chains_sound, chain_sound}
use Rattle.hyper_build.proofs.SoundMoves.{result_sound, items_fit, items_in_fit}

-- CODE

-- what code needs of where it stands
pub record GoodPlace (N : ℕ) (inside : Bool) (p : Place) : Type 0 where
  pub gave : Sound N p.gave
  pub entries : (f : ℕ) → p.entries f < N
  -- the block that ends the run stands
  pub ends : end_label < N
  pub broke : inside ≡ true → p.broke < N
  pub again : inside ≡ true → p.again < N

groups_small : (gs : List (List ℕ)) → ((v : ℕ) → is_saved gs v ≡ true → v < 80) → GroupsSmall gs
groups_small [] h = tt
groups_small (g ∷ gs) h = (
  each g (λ v e. h v (among_left g (concat gs) v e)),
  groups_small gs (λ v e. h v (among_right g (concat gs) v e)),
)
  where
    each : (vs : List ℕ) → ((v : ℕ) → is_among vs v ≡ true → v < 80) → AllSmall vs
    each [] h = tt
    each (x ∷ vs) h = (
      h x (or_left (nat_eq x x) (is_among vs x) (eq-eqb x x refl)),
      each vs (λ v e. h v (or_right (nat_eq v x) (is_among vs v) e)),
    )

-- where a leg leads, and where its blocks end, if it has some
pub record LegIs (N l join : ℕ) (p : Place) (c : Tree) : Type 0 where
  pub label : label_or l (exit_leg p join c) < N
  pub room : exit_leg p join c ≡ None → l + 1 + size c ≤ N

own_leg : (N l join : ℕ) (p : Place) (c : Tree) → exit_leg p join c ≡ None → l + (1 + size c) ≤ join
    → join < N → LegIs N l join p c
own_leg N l join p c e le lt = record {
  label = subst (λ o. label_or l o < N) (sym e) (omega (arith, le, lt));
  room = λ none. omega (arith, le, lt);
}

module _ (W : World) (g : Routine) (scalars : g.scalars ≤ 64) (N : ℕ)
    (known : (f : ℕ) (r : Routine) → slice_get W.routines f ≡ Some r → r.params ≤ 8) where
  leg_is : (inside : Bool) (p : Place) (c : Tree) (l join : ℕ) → FitsTree W g inside c
      → GoodPlace N inside p → l + leg_size c (size c) ≤ join → join < N → LegIs N l join p c
  leg_is inside p End l join t q le lt = record { label = lt; room = λ none. absurd (cc none) }
  leg_is inside p (BreakAt c ▸ End) l join t q le lt =
      record { label = q.broke t.0; room = λ none. absurd (cc none) }
  leg_is inside p (ContinueAt c ▸ End) l join t q le lt =
      record { label = q.again t.0; room = λ none. absurd (cc none) }
  leg_is inside p (BreakAt c ▸ (x ▸ rest)) l join t q le lt =
      own_leg N l join p (BreakAt c ▸ (x ▸ rest)) refl le lt
  leg_is inside p (ContinueAt c ▸ (x ▸ rest)) l join t q le lt =
      own_leg N l join p (ContinueAt c ▸ (x ▸ rest)) refl le lt
  leg_is inside p (LetAt c to op a b ▸ rest) l join t q le lt =
      own_leg N l join p (LetAt c to op a b ▸ rest) refl le lt
  leg_is inside p (FrameAt c to at ▸ rest) l join t q le lt =
      own_leg N l join p (FrameAt c to at ▸ rest) refl le lt
  leg_is inside p (LoadAt c to op a ▸ rest) l join t q le lt =
      own_leg N l join p (LoadAt c to op a ▸ rest) refl le lt
  leg_is inside p (SaveAt c op a v ▸ rest) l join t q le lt =
      own_leg N l join p (SaveAt c op a v ▸ rest) refl le lt
  leg_is inside p (CallAt c small f args to groups ▸ rest) l join t q le lt =
      own_leg N l join p (CallAt c small f args to groups ▸ rest) refl le lt
  leg_is inside p (PutAt v ▸ rest) l join t q le lt =
      own_leg N l join p (PutAt v ▸ rest) refl le lt
  leg_is inside p (GetAt c to ▸ rest) l join t q le lt =
      own_leg N l join p (GetAt c to ▸ rest) refl le lt
  leg_is inside p (IfAt c joined a one other ▸ rest) l join t q le lt =
      own_leg N l join p (IfAt c joined a one other ▸ rest) refl le lt
  leg_is inside p (LoopAt c body post ▸ rest) l join t q le lt =
      own_leg N l join p (LoopAt c body post ▸ rest) refl le lt
  leg_is inside p (ReturnAt c v ▸ rest) l join t q le lt =
      own_leg N l join p (ReturnAt c v ▸ rest) refl le lt
  leg_is inside p (HaltAt c v ▸ rest) l join t q le lt =
      own_leg N l join p (HaltAt c v ▸ rest) refl le lt

  leg_sound : (o : Option ℕ) (first : Block) (others : List Block)
      → (o ≡ None → Sound N first × AllSound N others) → AllSound N (leg_blocks o first others)
  leg_sound None first others s = s refl
  leg_sound (Some x) first others s = tt

  give_sound : (v : Option Arg) (k : Block) → FitsReturn g.scalars v → Sound N k → Sound N (give v k)
  give_sound None k t s = s
  give_sound (Some a) k t s = record {
    items = (omega arith, refl, source_fits g.scalars a scalars t, omega arith, s.items);
    tail = s.tail;
  }

  end_sound : (p : Place) (c : Bool) (post : Tree) (next head : ℕ) → FitsTree W g false post
      → next < N → head < N → Sound N (body_end p c post next head)
  end_sound p c post next head t a b = go (c || not (straight post))
    where
      go : (x : Bool) → Sound N (cond x (jump next)
          (record { items = items_of p post Done; tail = Leave (exit.Jump head) }))
      go true = jump_sound N next a
      go false = record { items = items_fit W g scalars false p post Done t tt; tail = b }

  choose_sound : (b : Bool) (x y : Block) → (b ≡ true → Sound N x) → (b ≡ false → Sound N y)
      → Sound N (choose b x y)
  choose_sound true x y f h = f refl
  choose_sound false x y f h = h refl

  choice_sound : (b : Bool) (xs ys : List Block) → (b ≡ true → AllSound N xs)
      → (b ≡ false → AllSound N ys) → AllSound N (cond b xs ys)
  choice_sound true xs ys f h = f refl
  choice_sound false xs ys f h = h refl

  part_sound : (b : Bool) (x y : Block) (xs ys : List Block) → (b ≡ true → Sound N x × AllSound N xs)
      → (b ≡ false → Sound N y × AllSound N ys) → Sound N (choose b x y) × AllSound N (cond b xs ys)
  part_sound true x y xs ys f h = f refl
  part_sound false x y xs ys f h = h refl

  -- a call's blocks
  call_sound : (p : Place) (c small : Bool) (f : ℕ) (args : List Arg) (to : Option ℕ)
      (groups : List (List ℕ)) (l : ℕ) (k : Block) (inside : Bool)
      → FitsCallAt W g f args to groups → GoodPlace N inside p
      → l + size_in (CallAt c small f args to groups) ≤ N → Sound N k
      → Sound N (entry_in p (CallAt c small f args to groups) l k)
      × AllSound N (blocks_in p (CallAt c small f args to groups) l k)
  call_sound p c small f args to groups l k inside t q le s =
      let n = chain_size small groups in
      let a = arguments_size small args in
      let back = l + n + a in
      let rest = cut c (back + 1 + n) k in
      let last = result_then to rest in
      let moves = argument_moves 0 args in
      let call = call_block (p.entries f) back in
      let arity = t.arity in
      let params = known f t.routine t.found in
      let gs = groups_small groups (λ v e. lasting_below g.scalars v scalars (t.saved v e)) in
      let ms = arguments_fit g.scalars 0 args scalars (omega (arith, arity, params)) t.lasting in
      let calls : Sound N (call_block (p.entries f) back) =
      record { items = tt; tail = (q.entries f, omega (arith, le)) } in
      let m1 = moved_sound N (argument_cuts small) 0 moves (l + n) call ms (omega (arith, le)) calls in
      let m2 = moves_sound N (argument_cuts small) 0 moves (l + n) call ms (omega (arith, le)) calls in
      let sv = λ (vs : List ℕ) (k : Block). saving_sound N p.frame vs k in
      let rs = λ (vs : List ℕ) (k : Block). restoring_sound N p.frame vs k in
      let r0 = cut_sound N c (back + 1 + n) k (omega (arith, le)) s in
      let r1 = result_sound N g.scalars to rest scalars t.result r0 in (
        chain_sound N small (saving p.frame) sv groups l _ gs (omega (arith, le)) m1,
        sound_append N (chain_blocks small (map (saving p.frame) groups) l
            (moved (argument_cuts small) 0 moves (l + n) call)) _
            (chains_sound N small (saving p.frame) sv groups l _ gs (omega (arith, le)) m1)
            (sound_append N (moved_blocks (argument_cuts small) 0 moves (l + n) call) _ m2 (
              chain_sound N small (restoring p.frame) rs groups (back + 1) last gs (omega (arith, le)) r1,
              sound_append N (chain_blocks small (map (restoring p.frame) groups) (back + 1) last) (cut_blocks c k)
                  (chains_sound N small (restoring p.frame) rs groups (back + 1) last gs (omega (arith, le)) r1)
                  (cuts_sound N c k s),
            )),
      )

  mutual
    sound_in : (inside : Bool) (p : Place) (st : Stmt) (l : ℕ) (k : Block) → FitsStmt W g inside st
        → GoodPlace N inside p → l + size_in st ≤ N → Sound N k
        → Sound N (entry_in p st l k) × AllSound N (blocks_in p st l k)
    sound_in inside p (LetAt c to op a b) l k t q le s =
        let h = cut_sound N c l k le s in (
          record { items = items_in_fit W g scalars inside p (LetAt c to op a b) _ t h.items; tail = h.tail },
          cuts_sound N c k s,
        )
    sound_in inside p (FrameAt c to at) l k t q le s =
        let h = cut_sound N c l k le s in (
          record { items = items_in_fit W g scalars inside p (FrameAt c to at) _ t h.items; tail = h.tail },
          cuts_sound N c k s,
        )
    sound_in inside p (LoadAt c to op a) l k t q le s =
        let h = cut_sound N c l k le s in (
          record { items = items_in_fit W g scalars inside p (LoadAt c to op a) _ t h.items; tail = h.tail },
          cuts_sound N c k s,
        )
    sound_in inside p (SaveAt c op a v) l k t q le s =
        let h = cut_sound N c l k le s in (
          record { items = items_in_fit W g scalars inside p (SaveAt c op a v) _ t h.items; tail = h.tail },
          cuts_sound N c k s,
        )
    sound_in inside p (CallAt c small f args to groups) l k t q le s =
        call_sound p c small f args to groups l k inside t q le s
    sound_in inside p (PutAt v) l k t q le s = (
      record {
        items = (
          omega arith,
          refl,
          omega arith,
          omega arith,
          (omega arith, refl, source_fits g.scalars v scalars t.0, omega arith, tt),
        );
        tail = omega (arith, le);
      },
      (s, tt),
    )
    sound_in inside p (GetAt c to) l k t q le s =
        let h = cut_sound N c (l + 1) k (omega (arith, le)) s in (
          record { items = (omega arith, refl, omega arith, omega arith, tt); tail = omega (arith, le) },
          (
            record {
              items = (
                register_small to (variable_small g.scalars to scalars t),
                refl,
                omega arith,
                omega arith,
                h.items,
              );
              tail = h.tail;
            },
            cuts_sound N c k s,
          ),
        )
    sound_in inside p (IfAt c joined a one other) l k t q le s =
        let l1 = l + leg_size one (size one) in
        let join = l1 + leg_size other (size other) in
        let room = λ (b : Bool) (e : is_item joined one other ≡ b). subst (λ b. l + cond b (cut_size c)
        (leg_size one (size one) + (leg_size other (size other) + 1)) ≤ N) e le in (
          choose_sound (is_item joined one other) _ _
              (λ e. let h = cut_sound N c l k (room true e) s in
              record {
                items = items_in_fit W g scalars inside p (IfAt c joined a one other) _ t h.items;
                tail = h.tail;
              })
              (λ e. let z = room false e in
              let x = leg_is inside p one l join t.2 q (omega arith) (omega (arith, z)) in
              let y = leg_is inside p other l1 join t.3 q (omega arith) (omega (arith, z)) in
              record { items = tt; tail = (source_fits g.scalars a scalars t.0, x.label, y.label) }),
          choice_sound (is_item joined one other) (cut_blocks c k) _ (λ e. cuts_sound N c k s)
              (λ e. let z = room false e in
              let jn = jump_sound N join (omega (arith, z)) in
              let x = leg_is inside p one l join t.2 q (omega arith) (omega (arith, z)) in
              let y = leg_is inside p other l1 join t.3 q (omega arith) (omega (arith, z)) in
              sound_append N (leg_blocks (exit_leg p join one) (entry p one (l + 1) (jump join))
              (blocks p one (l + 1) (jump join))) _
              (leg_sound (exit_leg p join one) _ _
              (λ none. sound_tree inside p one (l + 1) (jump join) t.2 q (x.room none) jn))
              (sound_append N (leg_blocks (exit_leg p join other) (entry p other (l1 + 1) (jump join))
              (blocks p other (l1 + 1) (jump join))) (k ∷ [])
              (leg_sound (exit_leg p join other) _ _
              (λ none. sound_tree inside p other (l1 + 1) (jump join) t.3 q (y.room none) jn)) (s, tt))),
        )
    sound_in inside p (LoopAt c body post) l k t q le s =
        let next = l + 1 + turn_size body in
        let bare = is_bare c body post in
        let broke = next + post_size bare (size post) in
        let again = label_or next (post_exit bare l) in
        let r = in_loop p broke again in
        let after = body_end r c post again l in
        let low : again < N = post_label N next l bare (omega (arith, le)) (omega (arith, le)) in
        let qb : GoodPlace N true (in_loop p broke again) = record {
          gave = q.gave;
          entries = q.entries;
          ends = q.ends;
          broke = λ e. omega (arith, le);
          again = λ e. low;
        } in
        let qp : GoodPlace N false (in_loop p broke again) = record {
          gave = q.gave;
          entries = q.entries;
          ends = q.ends;
          broke = λ e. omega (arith, le);
          again = λ e. low;
        } in
        let ends = end_sound r c post again l t.1 low (omega (arith, le)) in
        let x = sound_turn r body (l + 1) after t.0 qb (omega (arith, le)) ends in
        let y : post_exit bare l ≡ None → Sound N (entry r post (next + 1) (jump l))
        × AllSound N (blocks r post (next + 1) (jump l)) =
        λ none. sound_tree false r post (next + 1) (jump l) t.1 qp
        (post_room N next (size post) l bare none (omega (arith, le))) (jump_sound N l (omega (arith, le))) in (
          jump_sound N l (omega (arith, le)),
          (
            x.0,
            sound_append N (turn_blocks r body (l + 1) after) _ x.1
                (sound_append N (leg_blocks (post_exit bare l) (entry r post (next + 1) (jump l))
                (blocks r post (next + 1) (jump l))) (k ∷ [])
                (leg_sound (post_exit bare l) _ _ y) (s, tt)),
          ),
        )
    sound_in inside p (BreakAt c) l k t q le s = (jump_sound N p.broke (q.broke t), cuts_sound N c k s)
    sound_in inside p (ContinueAt c) l k t q le s = (jump_sound N p.again (q.again t), cuts_sound N c k s)
    sound_in inside p (ReturnAt c v) l k t q le s = (give_sound v p.gave t.0 q.gave, cuts_sound N c k s)
    sound_in inside p (HaltAt c v) l k t q le s =
        (give_sound (Some v) (jump end_label) t.0 (jump_sound N end_label q.ends), cuts_sound N c k s)

    -- code that fits has a sound entry and sound blocks, where what follows it is sound
    pub sound_tree : (inside : Bool) (p : Place) (c : Tree) (l : ℕ) (k : Block)
        → FitsTree W g inside c → GoodPlace N inside p → l + size c ≤ N → Sound N k
        → Sound N (entry p c l k) × AllSound N (blocks p c l k)
    sound_tree inside p End l k t q le s = (s, tt)
    sound_tree inside p (st ▸ rest) l k t q le s =
        let k1 = entry p rest (l + size_in st) k in
        let y = sound_tree inside p rest (l + size_in st) k t.1 q (omega (arith, le)) s in
        let x = sound_in inside p st l k1 t.0 q (omega (arith, le)) y.0 in
        (x.0, sound_append N (blocks_in p st l k1) (blocks p rest (l + size_in st) k) x.1 y.1)

    -- a loop's test
    sound_test : (p : Place) (st : Stmt) (l : ℕ) (k : Block) → FitsStmt W g true st → GoodPlace N true p
        → l + test_size st ≤ N → Sound N k → Sound N (test_entry p st l k) × AllSound N (test_blocks p st l k)
    sound_test p (IfAt c joined a one other) l k t q le s =
        let k1 = cut c (l + size one) k in
        let u = sound_tree true p one l k1 t.2 q (omega (arith, le))
        (cut_sound N c (l + size one) k (omega (arith, le)) s) in (
          record {
            items = (
              omega arith,
              refl,
              source_fits g.scalars a scalars t.0,
              omega arith,
              (omega arith, u.0.items, tt, tt),
            );
            tail = (omega arith, u.0.tail, q.broke refl);
          },
          sound_append N (blocks p one l k1) (cut_blocks c k) u.1 (cuts_sound N c k s),
        )
    sound_test p (LetAt c to op a b) l k t q le s = (s, tt)
    sound_test p (FrameAt c to at) l k t q le s = (s, tt)
    sound_test p (LoadAt c to op a) l k t q le s = (s, tt)
    sound_test p (SaveAt c op a v) l k t q le s = (s, tt)
    sound_test p (CallAt c small f args to groups) l k t q le s = (s, tt)
    sound_test p (PutAt v) l k t q le s = (s, tt)
    sound_test p (GetAt c to) l k t q le s = (s, tt)
    sound_test p (LoopAt c body post) l k t q le s = (s, tt)
    sound_test p (BreakAt c) l k t q le s = (s, tt)
    sound_test p (ContinueAt c) l k t q le s = (s, tt)
    sound_test p (ReturnAt c v) l k t q le s = (s, tt)
    sound_test p (HaltAt c v) l k t q le s = (s, tt)

    -- a loop's body
    sound_turn : (p : Place) (c : Tree) (l : ℕ) (k : Block) → FitsTree W g true c → GoodPlace N true p
        → l + turn_size c ≤ N → Sound N k → Sound N (turn_entry p c l k) × AllSound N (turn_blocks p c l k)
    sound_turn p End l k t q le s = (s, tt)
    sound_turn p (st ▸ rest) l k t q le s =
        let z = is_loop_test st rest in
        let l1 = l + part_size z st in
        let k1 = turn_entry p rest l1 k in
        let y = sound_turn p rest l1 k t.1 q (omega (arith, le)) s in
        let room : l + part_size z st ≤ N = omega (arith, le) in
        let at = λ (b : Bool) (e : z ≡ b). subst (λ b. l + part_size b st ≤ N) e room in
        let x = part_sound z (test_entry p st l k1) (entry_in p st l k1) (test_blocks p st l k1) (blocks_in p st l k1)
        (λ e. sound_test p st l k1 t.0 q (at true e) y.0)
        (λ e. sound_in true p st l k1 t.0 q (at false e) y.0) in (
          x.0,
          sound_append N (cond z (test_blocks p st l k1) (blocks_in p st l k1)) (turn_blocks p rest l1 k) x.1 y.1,
        )
