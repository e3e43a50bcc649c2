-- The starred cases hold, and so do the record's layout, the log example and the runs of specs/Runs.antt: each by computation.
use mathlib.Core.Path.{refl}
use mathlib.Core.List.{List}
use Prim.Native.Nat.{ℕ}
use Rattle.model.specs.Totals as Totals
use Rattle.model.specs.Store as Store
use Rattle.model.specs.Marks as Marks
use Rattle.model.specs.Batch as Batch
use Rattle.model.specs.Rights as Rights
use Rattle.model.specs.Row as Row
use Rattle.model.specs.Rules as Rules
use Rattle.model.specs.Versions as Versions
use Rattle.model.specs.Ranges as Ranges
use Rattle.model.specs.Steps as Steps
use Rattle.model.specs.Record as Record
use Rattle.model.specs.Apply as Apply
use Rattle.model.specs.Log as Log
use Rattle.model.specs.Cases.{Stars, Layout, Example}
use Rattle.model.specs.Cases as Cases
use Rattle.model.specs.Demand as Demand
use Rattle.model.specs.Runs.{Runs}
use Rattle.model.specs.Runs as Scripts

-- a name whose unfolding unfolds the whole model
unfoldable whole_model : Rules.Rules → Store.Lent → List ℕ → List ℕ
unfolding Store.up_from Store.range_of Marks.is_read Marks.mark_refusal Steps.stopped_by Steps.mark_keep Steps.mark_release Apply.refusal Apply.refused_by Demand.no_copy Batch.batch_of Row.write_row Rights.any_of Rights.each_of Rights.table_stands Rights.table_of Rights.table_fits Apply.give_table Versions.stamp_slots Versions.stamp Versions.link_slots Versions.unlink_slots Ranges.needs Ranges.needed Ranges.filter Ranges.merge_into Ranges.merge Ranges.first_two Ranges.needed_pools Ranges.joining Ranges.queued_pool Steps.put_publish Steps.put_stamp Steps.put_hand_in Steps.flush_take Steps.read_times Steps.flush_split Steps.flush_read Steps.move_off Steps.worker_off Steps.flush_free Steps.open_announce Steps.open_pass Steps.answer_for Steps.signed Steps.total_found Steps.found Steps.read_enter Steps.read_stand Steps.get_show Steps.close_withdraw Steps.time_step Steps.step_at Record.zeros Record.command_of Record.unused_zero Record.decode Record.cut Record.records_of Record.rows_of Record.list_fits Totals.follow Totals.of_group Totals.first_of Apply.in_ranges Apply.first_slots Apply.fresh Apply.set_up Apply.begin Apply.step Apply.obey Apply.apply_decoded Apply.apply Apply.hub_after Apply.answers_to Log.text Log.digits Log.decimal Log.words Log.line Log.lines Log.log_of Cases.record_of Cases.clock_of Cases.slots_of Cases.joined Demand.events Demand.end_once Demand.end_for Demand.observe Demand.is_unfinished Demand.running_of Demand.filter_below Demand.at_end Demand.end_effects Demand.step_effects Demand.effects Demand.order Demand.in_copy Demand.sum_over Demand.shows Demand.history Demand.feed Scripts.shown_along
whole_model = Log.log_of

pub stars : Stars
unfolding whole_model
stars =
    record {
      workers-17 = refl;
      workers-16 = refl;
      few_slots = refl;
      batches = refl;
      announced-5 = refl;
      none_announced = refl;
      merged = refl;
      five_needed = refl;
      four_needed = refl;
      two_needed = refl;
      last-clock = refl;
      both_at-5 = refl;
      clock-6 = refl;
      older_shown = refl;
      low-6 = refl;
    }

pub layout : Layout
unfolding whole_model
layout =
    record {
      put-bytes = refl;
      read_bytes = refl;
      get_bytes = refl;
      total_bytes = refl;
      mark_bytes = refl;
      release_bytes = refl;
      marked_bytes = refl;
      row-bytes = refl;
      row_parts = (refl, refl, refl);
      setup-bytes = refl;
      first_unused = refl;
      last_unused = refl;
      setup-unused = refl;
      refusal-order = refl;
      longer = refl;
    }

pub example : Example
unfolding whole_model
example = refl

pub runs : Runs
unfolding whole_model
runs =
    record {
      status_log = refl;
      status_order = refl;
      row_status = refl;
      row-25 = refl;
      row-25_short = refl;
      row-25_register = refl;
      row_none = refl;
      row_none_short = refl;
      tables_refused = refl;
      tables_accepted = refl;
      table_replaced = refl;
      table_late = refl;
      rights-log = refl;
      empty-log = refl;
      empty-order = refl;
      month_log = refl;
      month_order = refl;
      mark_refusals-log = refl;
      mark_refusals-order = refl;
      marks_last-log = refl;
      marks_last-order = refl;
      marks_last-shown = refl;
      sums-log = refl;
      sums-order = refl;
      sums-shown = refl;
      moved_total-log = refl;
      moved_total-order = refl;
      over-log = refl;
      over-order = refl;
      large-log = refl;
      bad-lists = refl;
      moved_log = refl;
      moved_order = refl;
      late_log = refl;
      late_order = refl;
      get_log = refl;
      get_order = refl;
      freed-once = refl;
      unlinked-log = refl;
      pool-order = refl;
      limit_log = refl;
      earlier_log = refl;
      earlier_order = refl;
    }
