-- One register joined, and then the others, is all of them joined.
use Rattle.std.proofs.Common.{◌≡◌, ℕ, ◌+◌, List, [], ◌∷◌, ◌++◌, length, length-append, ap, ◌∙◌}
use Rattle.std.proofs.Common.{arith, map, append_assoc, true, false}
use Rattle.ir_forms.specs.declared.flow.FlowNode.{FlowNode}
use Rattle.predication.specs.declared.work.Work.{Work}
use Rattle.predication.specs.declared.work.Named.{Named}
use Rattle.predication.specs.declared.work.Names.{Names}
use Rattle.predication.specs.inside.Environments.{Entry, under, put}
use Rattle.predication.specs.inside.Ifs.{Part, Joined}
use Rattle.predication.specs.inside.Emits.{Adds, low, leg_part, both_nodes, both_entry, puts, joined_at}
use Rattle.predication.proofs.AddLemmas.{more_nodes, adds_nodes, adds_count}
use Rattle.predication.proofs.NameLemmas.{puts_last}

module _ (t : ℕ) (w w1 : Work) (before : List Named) (one other : Names) (r : ℕ) (rest : List ℕ)
    (p : Adds w w1 (both_nodes t (length w.nodes) before one other r)) where
  -- the parts of both legs, and where the nodes of the other registers begin
  abbrev first : Part
  first = leg_part (under t true) (length w.nodes) before one r

  abbrev second : Part
  second = leg_part (under t false) (length w.nodes + length first.nodes) before other r

  abbrev others : ℕ → Joined
  others j = joined_at t j before one other rest

  abbrev next : ℕ
  next = length w.nodes + length first.nodes + length second.nodes

  begins : length w1.nodes ≡ next
  begins =
      let e = adds_count w w1 (first.nodes ++ second.nodes) p in
      let l = length-append first.nodes second.nodes in omega (arith, e, l)

  -- the nodes of the first register that is joined and of the others are those of all
  pub join_nodes : w1.nodes ++ map low (joined_at t (length w1.nodes) before one other rest).nodes
      ≡ w.nodes ++ map low (joined_at t (length w.nodes) before one other (r ∷ rest)).nodes
  join_nodes =
      ap (λ (j : ℕ). w1.nodes ++ map low (others j).nodes) begins
      ∙ ap (λ (ns : List FlowNode). ns ++ map low (others next).nodes)
      (adds_nodes w w1 (first.nodes ++ second.nodes) p)
      ∙ more_nodes w.nodes (first.nodes ++ second.nodes) (others next).nodes
      ∙ ap (λ (ns : List FlowNode). w.nodes ++ map low ns)
      (append_assoc first.nodes second.nodes (others next).nodes)

  -- the entries of the first register that is joined and of the others are those of all
  pub join_env : (named : List Named) (e : Entry) → e ≡ both_entry t (length w.nodes) before one other r
      → puts (named ++ record { register = r; entry = e } ∷ [])
      (joined_at t (length w1.nodes) before one other rest).env
      ≡ puts named (joined_at t (length w.nodes) before one other (r ∷ rest)).env
  join_env named e x =
      puts_last named (record { register = r; entry = e }) (others (length w1.nodes)).env
      ∙ ap (λ (j : ℕ). puts named (put (others j).env r e)) begins
      ∙ ap (λ (d : Entry). puts named (put (others next).env r d)) x
