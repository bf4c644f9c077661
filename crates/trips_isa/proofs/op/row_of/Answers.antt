use Rattle.trips_isa.specs.OperationTable.{row_of}
use Rattle.trips_isa.proofs.Rows.{mnemonic_is, form_is, opcode_is, extended_is, latency_is}
use Rattle.trips_isa.proofs.op.row_of.Goals as goal

pub returns-clause-mnemonic : goal.returns-clause-mnemonic
returns-clause-mnemonic c = mnemonic_is c.columns_of-row.result (row_of c.args.op) c.columns_of-row.ensures

pub returns-clause-form : goal.returns-clause-form
returns-clause-form c = form_is c.columns_of-row.result (row_of c.args.op) c.columns_of-row.ensures

pub returns-clause-opcode : goal.returns-clause-opcode
returns-clause-opcode c = opcode_is c.columns_of-row.result (row_of c.args.op) c.columns_of-row.ensures

pub returns-clause-extended : goal.returns-clause-extended
returns-clause-extended c = extended_is c.columns_of-row.result (row_of c.args.op) c.columns_of-row.ensures

pub returns-clause-latency : goal.returns-clause-latency
returns-clause-latency c = latency_is c.columns_of-row.result (row_of c.args.op) c.columns_of-row.ensures
