-- The report of a run, and the lines that it shows behind its ending (README.md of this crate).
use Rattle.std.specs.Prelude.{ℕ, ◌-◌, ◌/◌, ◌%◌, ◌^◌, nat_lt, Bool, if◌then◌else◌, List, [], ◌∷◌, ◌++◌, length}
use Rattle.std.specs.Prelude.{codes, slice_index, decimal, is_some}
use Rattle.std.specs.List.{flat_map}
use Rattle.std.specs.Int.{w64, to_be_bytes}
use Rattle.hex.specs.Hex.{encode_lower}
use Rattle.trips_isa.specs.declared.run.Counts.{Counts}
use Rattle.trips_isa.specs.declared.run.Ending.{Ending}
use Rattle.trips_isa.specs.declared.run.Ending.TheVariants as ending
use Rattle.trips_isa.specs.declared.run.Traced.{Traced}
use Rattle.trips_isa.specs.TrapCauses.{number_of}
use Rattle.isa_table.specs.Spots.{indexed}
use Rattle.target_asm_spec.specs.Numbers.{numbered}
use Rattle.trips_isa.specs.Machine.{State}
use Rattle.trips_requests.specs.Results.{end_line}
use Rattle.trips_requests.specs.Texts.{output_and}
use Rattle.trips_report.specs.declared.measured.Measured.{Measured}
use Rattle.trips_report.specs.declared.measured.Statistics.{Statistics}
use Rattle.trips_report.specs.declared.show.Show.{Show}
use Rattle.trips_report.specs.Commits.{commit_lines}

-- a word as a signed number in decimal digits
abbrev pub signed : ℕ → List ℕ
signed word = if nat_lt word (2 ^ 63) then decimal word else codes "-" ++ decimal (2 ^ 64 - word)

-- the line of an ending, of register 3 and of how many blocks were committed
abbrev pub ending_line : Ending → ℕ → ℕ → List ℕ
ending_line ending.Ended word blocks = end_line word (signed word)
ending_line ending.StackFull word blocks = codes "stack full"
ending_line ending.Budget word blocks = codes "budget " ++ decimal blocks
ending_line (ending.Trap block cause) word blocks =
    codes "trap block " ++ (decimal block ++ (codes " cause " ++ decimal (number_of cause)))

-- the report without what may be shown besides, from how the run ended and the state at its end
abbrev pub plain_report : Ending → State → List ℕ
plain_report ending s =
    output_and s.output (ending_line ending (slice_index s.registers 3) (length s.trace))

-- LINES THAT MAY BE SHOWN

-- a word in sixteen hexadecimal digits, lower-case and the most significant first
unfoldable pub word_digits : ℕ → List ℕ
word_digits word = encode_lower (to_be_bytes w64 word)

-- a register and its word, as `G[3] 0000000000000007`
unfoldable pub register_line : ℕ → ℕ → List ℕ
register_line r word = indexed 71 r ++ (32 ∷ (word_digits word ++ 10 ∷ []))

-- a line for each register, in order
abbrev pub register_lines : List ℕ → List ℕ
register_lines words = numbered register_line 0 words

-- a committed block and the exit that it took, as `block 0 exit 1`
unfoldable pub traced_line : Traced → List ℕ
traced_line t = codes "block " ++ (decimal t.block ++ (codes " exit " ++ (decimal t.exit ++ 10 ∷ [])))

-- a line for each committed block, in order
abbrev pub trace_lines : List Traced → List ℕ
trace_lines trace = flat_map traced_line trace

-- a name with a number
unfoldable pub count_line : List ℕ → ℕ → List ℕ
count_line name n = name ++ (decimal n ++ 10 ∷ [])

-- what a run took: five lines, of which the last has the most cycles that its blocks could cost
unfoldable pub count_lines : Counts → ℕ → List ℕ
count_lines counts cost =
    count_line (codes "blocks ") counts.committed
    ++ (count_line (codes "cycles ") counts.cycles
    ++ (count_line (codes "fetched ") counts.fetched
    ++ (count_line (codes "flushed ") counts.flushed ++ count_line (codes "cost ") cost)))

-- what was fired: `mov`, `null`, and all other operations
unfoldable pub fired_lines : Statistics → List ℕ
fired_lines s = count_line (codes "movs ") s.movs
    ++ (count_line (codes "nulls ") s.nulls ++ count_line (codes "useful ") s.useful)

-- loads answered, and stores resolved
unfoldable pub memory_lines : Statistics → List ℕ
memory_lines s = count_line (codes "loads ") s.loads ++ count_line (codes "stores ") s.stores

-- the frames that were flushed, by their causes
unfoldable pub flushed_lines : Statistics → List ℕ
flushed_lines s = count_line (codes "flushed_by_violation ") s.violations
    ++ (count_line (codes "flushed_by_exit ") s.wrong_exits ++ count_line (codes "flushed_at_end ") s.ends)

-- the blocks that were predicted, and those of them that were right
unfoldable pub predicted_lines : Statistics → List ℕ
predicted_lines s = count_line (codes "predicted ") s.predictions ++ count_line (codes "predicted_right ") s.right

-- the parcels of the operand network, the links that they passed, and the cycles that they waited for one
unfoldable pub network_lines : Statistics → List ℕ
network_lines s = count_line (codes "parcels ") s.parcels
    ++ (count_line (codes "links ") s.links ++ count_line (codes "waits ") s.waits)

-- how many cycles began with n frames in flight, as `in_flight_3 17`
unfoldable pub flight_line : ℕ → ℕ → List ℕ
flight_line n cycles = codes "in_flight_" ++ (decimal n ++ (32 ∷ (decimal cycles ++ 10 ∷ [])))

-- so for each number of frames, in order
abbrev pub flight_lines : List ℕ → List ℕ
flight_lines cycles = numbered flight_line 0 cycles

-- in how many cycles the unit of a tile was busy, by the row and the column of the tile, as `station_3_1 170`
unfoldable pub station_line : ℕ → ℕ → List ℕ
station_line tile cycles = codes "station_"
    ++ (decimal (tile / 4) ++ (95 ∷ (decimal (tile % 4) ++ (32 ∷ (decimal cycles ++ 10 ∷ [])))))

-- so for each tile, row by row
abbrev pub station_lines : List ℕ → List ℕ
station_lines cycles = numbered station_line 0 cycles

-- the statistics of a run: thirty-eight lines
unfoldable pub statistic_lines : Statistics → List ℕ
statistic_lines s = fired_lines s
    ++ (memory_lines s
    ++ (flushed_lines s
    ++ (predicted_lines s ++ (network_lines s ++ (flight_lines s.in_flight ++ station_lines s.stations)))))

-- nothing was counted
abbrev pub no_statistics : Statistics
no_statistics = record {
  movs = 0;
  nulls = 0;
  useful = 0;
  loads = 0;
  stores = 0;
  violations = 0;
  wrong_exits = 0;
  ends = 0;
  predictions = 0;
  right = 0;
  parcels = 0;
  links = 0;
  waits = 0;
  in_flight = 0 ∷ 0 ∷ 0 ∷ 0 ∷ 0 ∷ 0 ∷ 0 ∷ 0 ∷ 0 ∷ [];
  stations = 0 ∷ 0 ∷ 0 ∷ 0 ∷ 0 ∷ 0 ∷ 0 ∷ 0 ∷ 0 ∷ 0 ∷ 0 ∷ 0 ∷ 0 ∷ 0 ∷ 0 ∷ 0 ∷ [];
}

-- what a run took whose statistics were not counted, and of whose events nothing is told
abbrev pub uncounted : Counts → Measured
uncounted counts = record { counts = counts; statistics = no_statistics; events = [] }

-- a text, and behind it a part of the report where that is shown
unfoldable pub with_part : Bool → List ℕ → List ℕ → List ℕ
with_part shown part text = if shown then text ++ part else text

-- THE REPORT

-- A text, and behind it the registers, the committed blocks, what the run took, its statistics with how often each
-- block was committed, and the lines of its events, as far as they are shown.
abbrev pub with_shown : List ℕ → State → Measured → ℕ → Show → List ℕ
with_shown text s measured cost show =
    with_part (is_some show.events) measured.events
    (with_part show.stats (statistic_lines measured.statistics ++ commit_lines s.trace)
    (with_part show.cycles (count_lines measured.counts cost)
    (with_part show.trace (trace_lines s.trace) (with_part show.regs (register_lines s.registers) text))))

-- the report of a run, and behind it what is shown
abbrev pub run_report : Ending → State → Measured → ℕ → Show → List ℕ
run_report ending s measured cost show = with_shown (plain_report ending s) s measured cost show
