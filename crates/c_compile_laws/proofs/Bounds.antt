-- The image of a program is good, and as small as the text.
use Rattle.std.proofs.Common.{ℕ, sym, subst, arith}
use Rattle.trips_isa.specs.declared.block.Image.{Image}
use Rattle.trips_isa.specs.Stores.{data_size}
use Rattle.c_tree.specs.declared.typed.TypedProgram.{TypedProgram}
use Rattle.ir_forms.specs.inside.FlatCode.{Program}
use Rattle.ir_forms.specs.inside.Frames.{frame_limit}
use Rattle.hyper_build.specs.inside.Laws.{built_program, plan_of}
use Rattle.hyper_build.proofs.Assigned.{gives_assigned}
use Rattle.loop_unroll.proofs.Programs.{unrolls_blocks}
use Rattle.grid_place.specs.declared.placed.Placing.{Placing}
use Rattle.c_compile_layout.proofs.Linked.{made, good_image}
use Rattle.c_compile_blocks.proofs.UsedSlots.{uses_slots}
use Rattle.c_compile_laws.specs.Bounds.{HasBounds}
use Rattle.c_compile_laws.specs.inside.Compiled.{FlatMeans, IsCompiled}
use Rattle.c_compile_laws.proofs.Compiled.{data_fits, emitted}

-- the image of a program is good, and has at most twelve blocks a token
pub has_bounds : (P : TypedProgram) (F : Program) (t : ℕ) (p : Placing) (w : ℕ) (i : Image)
    → FlatMeans P F t → IsCompiled F p w i → HasBounds t p i
has_bounds P F t p w i m c =
    let all = emitted P F t p w i m c in
    let n = (gives_assigned c.cuts c.joins F c.lists c.groups m.fits c.assigned).few in
    let b = m.blocks in
    let e = (c.narrows).count in
    let u = (unrolls_blocks c.times (built_program (plan_of c.cuts c.joins c.groups) F)).size in
    let s = (made c.left c.blocks all).size in
    subst (λ (j : Image). HasBounds t p j) (sym c.is) (record {
      few = omega (arith, n, b, e, s, u);
      good = good_image c.left c.blocks F.bytes all (m.fits).bytes
          (data_fits F.bytes frame_limit data_size (m.fits).room);
      slots = uses_slots p c.left c.blocks c.made;
    })
