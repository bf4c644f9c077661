use Rattle.std.proofs.Common.{◌∙◌, ap, codes}
use Rattle.clap.specs.Matches.{found_of, first_value}
use Rattle.trips_requests.specs.Words.{fourth_name, second_name, third_name}
use Rattle.trips_requests.specs.Options.{options_of, counted, is_on}
use Rattle.trips_words.proofs.CommandLemmas.{no_flag_fourth, no_flag_second, no_flag_third, no_flag_input}
use Rattle.trips_words.proofs.CommandLemmas.{no_flag_count, no_flag_events, no_flag_frames, no_flag_place}
use Rattle.trips_words.proofs.CommandLemmas.{no_flag_predictor, no_flag_seed, no_flag_unroll, no_flag_weather}
use Rattle.trips_words.proofs.CommandLemmas.{found_said, found_on, same_options}
use Rattle.trips_words.proofs.asking.options_found.Goals as goal

pub returns : goal.returns
returns c said f =
    let k = c.args.command in
    let m = c.args.matches.now in
    let o = options_of k in
    same_options _ _ _ _ _ _ _ _ _ _ _ _ _ _ _ _ _ _ _ _ _ _ _ _ _ _ _ _ _ _ _ _ _ _ _ _
    (c.get_str.ensures ∙ found_said o said m second_name f (no_flag_second k))
    (c.get_str-2.ensures ∙ found_said o said m third_name f (no_flag_third k))
    (c.get_str-3.ensures ∙ found_said o said m fourth_name f (no_flag_fourth k))
    (c.get_str-4.ensures ∙ found_said o said m (codes "input") f (no_flag_input k))
    (c.get_str-5.ensures ∙ ap (first_value (found_of m)) c.counted.ensures
    ∙ found_said o said m (counted k) f (no_flag_count k))
    (c.get_str-6.ensures ∙ found_said o said m (codes "place") f (no_flag_place k))
    (c.get_str-7.ensures ∙ found_said o said m (codes "unroll") f (no_flag_unroll k))
    (c.get_str-8.ensures ∙ found_said o said m (codes "seed") f (no_flag_seed k))
    (c.get_str-9.ensures ∙ found_said o said m (codes "predictor") f (no_flag_predictor k))
    (c.get_str-10.ensures ∙ found_said o said m (codes "weather") f (no_flag_weather k))
    (c.get_str-11.ensures ∙ found_said o said m (codes "frames") f (no_flag_frames k))
    (c.is_on.ensures ∙ ap is_on c.get_str-12.ensures ∙ found_on o said m (codes "regs") f)
    (c.is_on-2.ensures ∙ ap is_on c.get_str-13.ensures ∙ found_on o said m (codes "trace") f)
    (c.is_on-3.ensures ∙ ap is_on c.get_str-14.ensures ∙ found_on o said m (codes "cycles") f)
    (c.is_on-4.ensures ∙ ap is_on c.get_str-15.ensures ∙ found_on o said m (codes "stats") f)
    (c.get_str-16.ensures ∙ found_said o said m (codes "events") f (no_flag_events k))
    (c.is_on-5.ensures ∙ ap is_on c.get_str-17.ensures ∙ found_on o said m (codes "listing") f)
    (c.is_on-6.ensures ∙ ap is_on c.get_str-18.ensures ∙ found_on o said m (codes "trap") f)
