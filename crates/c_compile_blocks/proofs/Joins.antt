-- What both legs of the test of a block leave of the registers that a leg sets.
use Rattle.std.proofs.Common.{◌≡◌, ℕ, suc, ◌+◌, ◌*◌, ◌≤◌, Bool, true, false, List, [], ◌∷◌, ◌++◌, length, refl, sym}
use Rattle.std.proofs.Common.{subst, ap, ◌∙◌, arith, length-append, cond, nat_eq, inl, inr}
use Rattle.std.specs.Prelude.{Some, None, slice_get}
use Rattle.ir_forms.specs.declared.flow.FlowSource.TheVariants.{Node}
use Rattle.ir_forms.specs.declared.flow.FlowNode.{FlowNode}
use Rattle.predication.specs.declared.work.Entry.{Entry}
use Rattle.predication.specs.inside.Environments.{Scope, Env, under, put, from_node, both, member, distinct}
use Rattle.predication.specs.inside.Operands.{mov_of}
use Rattle.predication.specs.inside.Ifs.{Part, Joined, left_of, side_of, join}
use Rattle.c_compile_blocks.proofs.Pieces.{found}
use Rattle.c_compile_blocks.proofs.Firmness.{bare_there}
use Rattle.c_compile_blocks.proofs.Supplies.{AreAt, at_front, at_back}
use Rattle.c_compile_blocks.proofs.OneGuard.{IsGuardBy, under_by, guard_one, IsHeld, held_none, held_append}
use Rattle.c_compile_blocks.proofs.OneGuard.{held_wider}
use Rattle.c_compile_blocks.proofs.Entries.{IsUnder, IsOwn, IsSingle, IsSide, IsKnown, own_later, single_later}
use Rattle.c_compile_blocks.proofs.Entries.{side_later, known_later, under_later}

-- as many registers, or fewer
pub distinct_most : (rs : List ℕ) → length (distinct rs) ≤ length rs
distinct_most [] = omega arith
distinct_most (r ∷ rs) = go (member r rs) (distinct_most rs)
  where
    go : (b : Bool) → length (distinct rs) ≤ length rs
        → length (cond b (distinct rs) (r ∷ distinct rs)) ≤ suc (length rs)
    go true h = omega (arith, h)
    go false h = omega (arith, h)

module _ (P : ℕ → Type 0) (all : List FlowNode) (c : ℕ) where
  -- what a leg leaves of a register
  record IsPart (j : ℕ) (g : Scope) (p : Part) : Type 0 where
    pub held : IsHeld P all c j p.nodes 3
    pub side : IsSide all (j + length p.nodes) g p.entry

  -- A LEG THAT DOES NOT SET IT

  abbrev Left : ℕ → Scope → ℕ → Entry → Type 0
  Left j g r e =
      AreAt all j (left_of g j r e.given e.kept).nodes → IsPart j g (left_of g j r e.given e.kept)

  found_left : (j : ℕ) (g : Scope) (r : ℕ) → Left j g r found
  found_left j g r at = record { held = held_none P all c j 3; side = inr refl }

  node_left : (j : ℕ) (g : Scope) (r i : ℕ) → IsGuardBy c g → IsUnder all j None i → Left j g r (from_node i)
  node_left j g r i guard (n, e, z, l) at =
      let u = guard_one g in
      record {
        held = record {
          guards = (guard, tt);
          firm = (
            record {
              left = λ d. bare_there all i j g [] l (n, e, z);
              right = λ d. absurd (cc);
            },
            tt,
          );
          used = ((λ d. absurd (cc)), tt);
          reads = ((λ q d. absurd (cc)), (λ q d. absurd (cc)), tt);
          cost = omega (arith, u);
        };
        side = inl (j + 0, (mov_of g (Node i ∷ []), first at, refl, omega arith), refl);
      }
    where
      zero_on : j + 0 ≡ j
      zero_on = omega arith

      first : AreAt all j (mov_of g (Node i ∷ []) ∷ []) → slice_get all (j + 0) ≡ Some (mov_of g (Node i ∷ []))
      first x = ap (slice_get all) zero_on ∙ x.0

  left_is : (j : ℕ) (g : Scope) (r : ℕ) (e : Entry) → IsGuardBy c g → IsSingle all j None e → Left j g r e
  left_is j g r e guard (inl x) = subst (Left j g r) (sym x) (found_left j g r)
  left_is j g r e guard (inr (inl (i, u, x))) = subst (Left j g r) (sym x) (node_left j g r i guard u)
  left_is j g r e guard (inr (inr (i, u, x))) = subst (Left j g r) (sym x) (node_left j g r i guard u)

  -- EITHER LEG

  side_is : (s : Bool) (j : ℕ) (g : Scope) (r : ℕ) (before mine : Entry) → IsGuardBy c g
      → IsSingle all j None before → (s ≡ true → IsOwn all j g mine)
      → AreAt all j (side_of s g j r before mine).nodes → IsPart j g (side_of s g j r before mine)
  side_is true j g r before mine guard x f at = record {
    held = held_none P all c j 3;
    side = inl (own_later all j (j + 0) g mine (omega arith) (f refl));
  }
  side_is false j g r before mine guard x f at = left_is j g r before guard x at

  -- BOTH LEGS

  -- what joining the registers of both legs comes to: what it costs, and what is known behind it
  pub record IsJoined (j k : ℕ) (o : Joined) : Type 0 where
    pub held : IsHeld P all c j o.nodes (6 * k)
    pub known : (q : ℕ) → IsKnown all c true (j + length o.nodes) None (o.env q)

  put_both : (k r q : ℕ) (env : Env) (a b : Entry) → IsUnder all k None c → IsSide all k (under c true) a
      → IsSide all k (under c false) b → IsKnown all c true k None (env q)
      → IsKnown all c true k None (put env r (both a b) q)
  put_both k r q env a b t x y h = go (nat_eq q r)
    where
      go : (s : Bool) → IsKnown all c true k None (cond s (both a b) (env q))
      go true = inr (refl, refl, (a, b, t, x, y, refl))
      go false = h

  -- joining k registers of both legs costs at most 6 k, and each register is known behind it
  pub joined : (env yea nay : Env) (ty tn rs : List ℕ) (j : ℕ) → IsUnder all j None c
      → ((q : ℕ) → IsSingle all j None (env q))
      → ((q : ℕ) → member q ty ≡ true → IsOwn all j (under c true) (yea q))
      → ((q : ℕ) → member q tn ≡ true → IsOwn all j (under c false) (nay q))
      → AreAt all j (join c j env yea nay ty tn rs).nodes → IsJoined j (length rs) (join c j env yea nay ty tn rs)
  joined env yea nay ty tn [] j t single f g at = record {
    held = held_none P all c j 0;
    known = λ q. inl (single_later all j (j + 0) None (env q) (omega arith) (single q));
  }
  joined env yea nay ty tn (r ∷ rs) j t single f g at =
      let a = side_of (member r ty) (under c true) j r (env r) (yea r) in
      let i = j + length a.nodes in
      let b = side_of (member r tn) (under c false) i r (env r) (nay r) in
      let k = i + length b.nodes in
      let o = join c k env yea nay ty tn rs in
      let back = at_back all j a.nodes (b.nodes ++ o.nodes) at in
      let u = side_is (member r ty) j (under c true) r (env r) (yea r) (under_by c true) (single r) (f r)
      (at_front all j a.nodes (b.nodes ++ o.nodes) at) in
      let v = side_is (member r tn) i (under c false) r (env r) (nay r) (under_by c false)
      (single_later all j i None (env r) (omega arith) (single r))
      (λ d. own_later all j i (under c false) (nay r) (omega arith) (g r d))
      (at_front all i b.nodes o.nodes back) in
      let h = joined env yea nay ty tn rs k (under_later all j k None c (omega arith) t)
      (λ q. single_later all j k None (env q) (omega arith) (single q))
      (λ q d. own_later all j k (under c true) (yea q) (omega arith) (f q d))
      (λ q d. own_later all j k (under c false) (nay q) (omega arith) (g q d)) (at_back all i b.nodes o.nodes back) in
      let x = length-append a.nodes (b.nodes ++ o.nodes) in
      let y = length-append b.nodes o.nodes in
      let end = j + length (a.nodes ++ (b.nodes ++ o.nodes)) in
      record {
        held = held_wider P all c j (a.nodes ++ (b.nodes ++ o.nodes)) (3 + (3 + 6 * length rs))
            (6 * suc (length rs)) (omega arith)
            (held_append P all c j a.nodes (b.nodes ++ o.nodes) 3 (3 + 6 * length rs) u.held
            (held_append P all c i b.nodes o.nodes 3 (6 * length rs) v.held h.held));
        known = λ q.
            put_both end r q o.env a.entry b.entry (under_later all j end None c (omega arith) t)
            (side_later all i end (under c true) a.entry (omega (arith, x)) u.side)
            (side_later all k end (under c false) b.entry (omega (arith, x, y)) v.side)
            (known_later all c true (k + length o.nodes) end None (o.env q) (omega (arith, x, y)) (h.known q));
      }
