use Rattle.std.specs.Str.Lines.{lines}
use Rattle.std.proofs.Common.{◌≡◌, ◌∙◌, ℕ, List, [], Some, ap, map, rules, string_bytes, subst}
use Rattle.sup_supctl.specs.Runs.{RunsAll}
use Rattle.sup_rows.proofs.CaseLaws.{over_input}
use Rattle.sup_rows.proofs.case.Given.play.Goals as goal

pub returns : goal.returns
returns g c =
    let told : List (List ℕ) = map (λ s. s.now) c.as_slice.result.now in
    let same : told ≡ lines (string_bytes c.args.self.words) = ap (map (λ s. s.now)) c.as_slice.ensures.value ∙ c.in_ok-words.ensures ∙ ap lines c.deref.ensures in
    let ran = c.run-ended.ensures in
    let new = c.run-ended.new in
    record {
      left = new.reader.now;
      told = new.errors.items;
      ended = c.run-ended.result;
      runs = subst (λ words. RunsAll Some Some Some words c.args.self.input.items new.reader.now [] new.writer.items [] new.errors.items c.run-ended.result) same (over_input (λ a b e. RunsAll Some Some Some told a new.reader.now b new.writer.items e new.errors.items c.run-ended.result) _ _ _ _
          c.as_slice-reader.ensures.value c.new-output.ensures.items c.new-errors.ensures.items
          record { performs = ran.performs; taken = ran.taken; unread = λ e. ap (λ s. s.now) (ran.unread e); unwritten = λ e. ap (λ v. v.items) (ran.unwritten e) });
      shown = search rules;
      errors = search rules;
    }
