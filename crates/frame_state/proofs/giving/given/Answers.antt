use Rattle.std.proofs.Common.{◌+◌, None, get_or, ap, ap₂, ◌∙◌}
use Rattle.trips_isa.specs.declared.form.Form.TheVariants.{General, Immediate, Constant, Load, Store, Branch}
use Rattle.trips_isa.specs.Alu.{alu_of}
use Rattle.trips_isa.specs.Forms.{branch_role, constant_role}
use Rattle.trips_isa.specs.Rule.{gives, of_both, of_one}
use Rattle.trips_isa.specs.Stores.{load_of}
use Rattle.frame_state.proofs.GivingFacts.{by_form}
use Rattle.frame_state.proofs.giving.given.Goals as goal

pub returns-in-General : goal.returns-in-General
returns-in-General c = c.general_gives.ensures
    ∙ by_form General c.args.inst c.args.bytes (get_or c.args.spots.now c.args.slot None)
    (get_or c.args.spots.now (128 + c.args.slot) None) c.in-General.ensures.value

pub returns-in-Immediate : goal.returns-in-Immediate
returns-in-Immediate c = c.one_gives.ensures
    ∙ ap₂ (λ l w. of_one (λ x. alu_of c.args.inst.op x w) l) c.get.ensures.value c.immediate_of.ensures.value
    ∙ by_form Immediate c.args.inst c.args.bytes (get_or c.args.spots.now c.args.slot None)
    (get_or c.args.spots.now (128 + c.args.slot) None) c.in-Immediate.ensures.value

pub returns-in-Constant : goal.returns-in-Constant
returns-in-Constant c = c.constant_gives.ensures
    ∙ ap (λ w. gives (constant_role c.args.inst.op) (λ l r. alu_of c.args.inst.op l w)
    (get_or c.args.spots.now c.args.slot None) (get_or c.args.spots.now (128 + c.args.slot) None))
    c.immediate_of-in-Constant.ensures.value
    ∙ by_form Constant c.args.inst c.args.bytes (get_or c.args.spots.now c.args.slot None)
    (get_or c.args.spots.now (128 + c.args.slot) None) c.in-Constant.ensures.value

pub returns-in-Load : goal.returns-in-Load
returns-in-Load c = c.load_gives.ensures
    ∙ ap (of_one (load_of c.args.inst (λ a. c.args.bytes))) c.get-in-Load.ensures.value
    ∙ by_form Load c.args.inst c.args.bytes (get_or c.args.spots.now c.args.slot None)
    (get_or c.args.spots.now (128 + c.args.slot) None) c.in-Load.ensures.value

pub returns-in-Store : goal.returns-in-Store
returns-in-Store c = c.store_gives.ensures
    ∙ ap₂ (of_both (λ l r. r)) c.get-in-Store.ensures.value c.get-in-Store-2.ensures.value
    ∙ by_form Store c.args.inst c.args.bytes (get_or c.args.spots.now c.args.slot None)
    (get_or c.args.spots.now (128 + c.args.slot) None) c.in-Store.ensures.value

pub returns-in-Branch : goal.returns-in-Branch
returns-in-Branch c = c.branch_gives.ensures (get_or c.args.spots.now (128 + c.args.slot) None)
    ∙ ap (λ l. gives (branch_role c.args.inst.op) (λ x y. x) l (get_or c.args.spots.now (128 + c.args.slot) None))
    c.get-in-Branch.ensures.value
    ∙ by_form Branch c.args.inst c.args.bytes (get_or c.args.spots.now c.args.slot None)
    (get_or c.args.spots.now (128 + c.args.slot) None) c.in-Branch.ensures.value
