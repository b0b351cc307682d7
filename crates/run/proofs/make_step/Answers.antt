use mathlib.Core.Path.{refl, ap, ◌∙◌}
use Rattle.book.specs.Answers.{numbers, holding}
use Rattle.book.specs.Run.{held_reply}
use Rattle.run.specs.Asked.{call_number}
use Rattle.run.proofs.Going.{step-holder, step-changes, step-valued, step-none}
use Rattle.run.proofs.make_step.Goals as goal

pub returns-in-Some-WhoHolds : goal.returns-in-Some-WhoHolds
returns-in-Some-WhoHolds c =
    let k = c.in-Some-WhoHolds in
    let a = holding c.make_who-h.result in record {
      numbers = held_reply a;
      result = step-holder (held_reply a) _ _ _ _ _ _ _ c.number.result c.number.ensures.0 (k.ensures ∙ ap call_number k.field-0-is) c.number-in-Some-WhoHolds.result c.number-in-Some-WhoHolds.ensures.0
          (record { answer = a; outcome = c.make_who-h.ensures; reply = refl; kept = refl });
      reply = c.put_held.ensures.0;
      done = c.put_held.ensures.1;
    }

pub returns-in-Some-Salvage : goal.returns-in-Some-Salvage
returns-in-Some-Salvage c = let k = c.in-Some-Salvage in record {
  numbers = numbers c.make_salvage-a.result;
  result = step-changes (numbers c.make_salvage-a.result) _ _ _ _ _ _ _ c.number.result c.number.ensures.0 (k.ensures ∙ ap call_number k.field-0-is) c.make_salvage-a.ensures;
  reply = c.put.ensures.0;
  done = c.put.ensures.1;
}

pub returns-in-Some-Valued : goal.returns-in-Some-Valued
returns-in-Some-Valued c = let k = c.in-Some-Valued in record {
  numbers = numbers c.make-a.result;
  result = step-valued (numbers c.make-a.result) _ _ _ _ _ _ _ c.number.result c.number.ensures.0 _ (k.ensures ∙ ap call_number k.field-0-is) (record { outcome = c.make-a.ensures; kept = refl });
  reply = c.put-in-Some-Valued.ensures.0;
  done = c.put-in-Some-Valued.ensures.1;
}

pub returns-in-None : goal.returns-in-None
returns-in-None c = record {
  numbers = numbers c.wrong-a.result;
  result = step-none (numbers c.wrong-a.result) _ _ _ _ _ _ _ c.number.result c.number.ensures.0 c.in-None.ensures (record { outcome = c.wrong-a.ensures; kept = refl });
  reply = c.put-in-None.ensures.0;
  done = c.put-in-None.ensures.1;
}
