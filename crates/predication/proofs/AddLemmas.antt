-- Nodes behind nodes.
use Rattle.std.proofs.Common.{◌≡◌, ℕ, ◌+◌, List, ◌++◌, length, length-append, sym, ap, ◌∙◌, map, append_assoc}
use Rattle.std.proofs.lemmas.List.{map-append, length-map}
use Rattle.ir_forms.specs.declared.flow.FlowNode.{FlowNode}
use Rattle.predication.specs.declared.work.Work.{Work}
use Rattle.predication.specs.inside.Emits.{Adds, low}

-- nodes put behind nodes twice are those put behind together
pub more_nodes : (a x y : List FlowNode) → (a ++ map low x) ++ map low y ≡ a ++ map low (x ++ y)
more_nodes a x y =
    append_assoc a (map low x) (map low y) ∙ ap (λ (l : List FlowNode). a ++ l) (sym (map-append low x y))

-- nodes behind nodes are as many as both together
pub count_more : (a x : List FlowNode) → length (a ++ map low x) ≡ length a + length x
count_more a x = length-append a (map low x) ∙ ap (λ (n : ℕ). length a + n) (length-map x low)

abbrev work_of : List FlowNode → ℕ → Work
work_of ns k = record { nodes = ns; number = k }

-- two states of the work are one where their parts are
pub same_work : (a b : Work) → a.nodes ≡ b.nodes → a.number ≡ b.number → a ≡ b
same_work a b e f =
    ap (λ (ns : List FlowNode). work_of ns a.number) e ∙ ap (λ (k : ℕ). work_of b.nodes k) f

-- Work to which nodes were added has them behind its own.
pub adds_nodes : (a b : Work) (x : List FlowNode) → Adds a b x → b.nodes ≡ a.nodes ++ map low x
adds_nodes a b x p = ap (λ (w : Work). w.nodes) p

-- more nodes leave the next number as it is
pub adds_number : (a b : Work) (x : List FlowNode) → Adds a b x → b.number ≡ a.number
adds_number a b x p = ap (λ (w : Work). w.number) p

-- nodes added twice are added together
pub adds_two : (a b c : Work) (x y : List FlowNode) → Adds a b x → Adds b c y → Adds a c (x ++ y)
adds_two a b c x y p q =
    same_work c (record a { nodes = a.nodes ++ map low (x ++ y) })
    (adds_nodes b c y q ∙ ap (λ (ns : List FlowNode). ns ++ map low y) (adds_nodes a b x p)
    ∙ more_nodes a.nodes x y)
    (adds_number b c y q ∙ adds_number a b x p)

-- where the next node stands
pub adds_count : (a b : Work) (x : List FlowNode) → Adds a b x → length b.nodes ≡ length a.nodes + length x
adds_count a b x p = ap (λ (ns : List FlowNode). length ns) (adds_nodes a b x p) ∙ count_more a.nodes x
