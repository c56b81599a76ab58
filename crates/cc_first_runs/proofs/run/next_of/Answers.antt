use Rattle.std.proofs.Common.{rules, ◌∙◌, sym}
use Rattle.cc_first_runs.specs.Stacks.{name_of}
use Rattle.cc_first_runs.proofs.Stacks.{call_in_code, designated_in_code}
use Rattle.cc_first_runs.proofs.run.next_of.Goals as goal

pub returns-in-None-designated : goal.returns-in-None-designated
returns-in-None-designated c =
    let function = c.in-Some.function.now in
    let name = c.in-Some-get.name.now in
    let calls = c.deref.result.now in
    let called = call_in_code c.args.program.now c.args.frame function calls name c.in-Some.ensures.lookup.3.0 c.in-Some.ensures.lookup.1 c.deref.ensures.value c.in-Some-get.ensures.lookup.3.0 c.in-Some-get.ensures.lookup.1 in
    record {
      is = record {
        name = name_of name.now;
        called = called;
        designates = sym (designated_in_code c.args.program.now name.now) ∙ sym c.in-None-designated.ensures;
        small = search rules;
      };
    }

pub returns-in-Some-designated : goal.returns-in-Some-designated
returns-in-Some-designated c =
    let function = c.in-Some.function.now in
    let name = c.in-Some-get.name.now in
    let calls = c.deref.result.now in
    let called = call_in_code c.args.program.now c.args.frame function calls name c.in-Some.ensures.lookup.3.0 c.in-Some.ensures.lookup.1 c.deref.ensures.value c.in-Some-get.ensures.lookup.3.0 c.in-Some-get.ensures.lookup.1 in
    record {
      is = record {
        name = name_of name.now;
        called = called;
        designates = sym (designated_in_code c.args.program.now name.now) ∙ sym c.in-Some-designated.ensures;
        small = search rules;
      };
    }
