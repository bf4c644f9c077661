-- Offsets lie in their fields.
use Rattle.std.proofs.Common.{◌≡◌, ℕ, suc, ◌-◌, ◌<◌, Bool, true, false, cond, List, [], ◌∷◌, map, length}
use Rattle.std.proofs.Common.{refl, sym, subst, arith}
use Rattle.std.specs.Prelude.{ℤ, pos, negsuc, nat_le, get_or}
use Rattle.std.specs.List.{All}
use Rattle.std.proofs.lemmas.List.Elements.{All-cons}
use Rattle.trips_isa.specs.declared.op.Op.{Op}
use Rattle.trips_isa.specs.declared.op.Op.TheVariants.{Bro, Callo}
use Rattle.trips_isa.specs.declared.form.Form.{Form}
use Rattle.trips_isa.specs.declared.form.Form.TheVariants.{General, Immediate, Load, Store, Branch}
use Rattle.trips_isa.specs.declared.form.Form.TheVariants.{Constant}
use Rattle.trips_isa.specs.declared.block.Block.{Block}
use Rattle.trips_isa.specs.Fits.{FitsSigned}
use Rattle.trips_isa.specs.Forms.{form_of}
use Rattle.trips_isa.specs.Images.{chunk_of}
use Rattle.trips_isa.specs.Limits.{most_chunks, offset_half}
use Rattle.ir_forms.specs.declared.flow.FlowNode.{FlowNode}
use Rattle.ir_forms.specs.declared.flow.FlowBlock.{FlowBlock}
use Rattle.ir_forms.specs.inside.FlowFits.{FitsFlow, FitsNodeForm, FitsLabel}
use Rattle.c_compile_layout.specs.inside.Linking.{resolved_node, by_offset, by_address, offset, label_in}
use Rattle.c_compile_layout.specs.inside.Layouts.{AreFew}
use Rattle.c_compile_layout.specs.inside.Emitted.{LabelBelow}
use Rattle.c_compile_layout.proofs.Faithful.{chunk_low}
use Rattle.c_compile_layout.proofs.Fitting.{FormsFit}
use Rattle.c_compile_layout.proofs.Offsets.{kept}

offset_fits : (here there : ℕ) → here < most_chunks → there < most_chunks → FitsSigned offset_half (offset here there)
offset_fits here there h t = go (nat_le here there) refl
  where
    go : (v : Bool) → nat_le here there ≡ v
        → FitsSigned offset_half (cond v (pos (there - here)) (negsuc (here - there - 1)))
    go true e = omega arith
    go false e = omega arith

module _ (us : List Block) (k : ℕ) (few : AreFew us) (low : k < length us) where
  label_fits : (op : Op) (imm : ℤ) → FitsLabel op imm → LabelBelow (length us) op imm
      → FitsLabel op (by_offset (chunk_of us) k op imm)
  label_fits Bro imm h l = offset_fits _ _ (chunk_low us k few low) (chunk_low us (label_in imm) few l)
  label_fits Callo imm h l = offset_fits _ _ (chunk_low us k few low) (chunk_low us (label_in imm) few l)
  label_fits _ imm h l = h

  form_fits : (n : FlowNode) → FitsNodeForm (form_of n.op) n → LabelBelow (length us) n.op n.imm
      → FitsNodeForm (form_of n.op) (resolved_node (by_offset (chunk_of us) k) n)
  form_fits n h l = go (form_of n.op) refl h
    where
      other : (x : Form) → (form_of n.op ≡ Branch → ⊥) → FitsNodeForm x n
          → FitsNodeForm x (resolved_node (by_offset (chunk_of us) k) n)
      other x d h = subst (FitsNodeForm x) (sym (kept (chunk_of us) k n d)) h

      go : (x : Form) → form_of n.op ≡ x → FitsNodeForm x n
          → FitsNodeForm x (resolved_node (by_offset (chunk_of us) k) n)
      go Branch s h = (label_fits n.op n.imm h.0 l, h.1)
      go General s h = other General (λ b. absurd (cc)) h
      go Immediate s h = other Immediate (λ b. absurd (cc)) h
      go Load s h = other Load (λ b. absurd (cc)) h
      go Store s h = other Store (λ b. absurd (cc)) h
      go Constant s h = other Constant (λ b. absurd (cc)) h

  -- the offsets of a block whose labels are below the number of blocks lie in their fields
  pub forms_fit : (f : FlowBlock) → FitsFlow f → All (λ (x : FlowNode). LabelBelow (length us) x.op x.imm) f.nodes
      → FormsFit (by_offset (chunk_of us) k) f.nodes
  forms_fit f fits labels i d l =
      let h = (fits.nodes i d l).form in form_fits (get_or f.nodes i d) h (labels i d l)

-- addresses leave the labels of branches
label_named : (address : ℕ → ℕ) (n : ℕ) (op : Op) (imm : ℤ) → LabelBelow n op imm
    → LabelBelow n op (by_address address op imm)
label_named address n Bro imm h = h
label_named address n Callo imm h = h
label_named address n _ imm h = tt

-- labels stay below a number where addresses are resolved
pub labels_named : (address : ℕ → ℕ) (n : ℕ) (ns : List FlowNode)
    → All (λ (x : FlowNode). LabelBelow n x.op x.imm) ns
    → All (λ (x : FlowNode). LabelBelow n x.op x.imm) (map (resolved_node (by_address address)) ns)
labels_named address n [] a = λ i d l. absurd (omega arith)
labels_named address n (x ∷ ns) a =
    All-cons (λ (x : FlowNode). LabelBelow n x.op x.imm) (resolved_node (by_address address) x)
    (map (resolved_node (by_address address)) ns) (label_named address n x.op x.imm (a 0 x (omega arith)))
    (labels_named address n ns (λ i d l. a (suc i) d (omega arith)))
