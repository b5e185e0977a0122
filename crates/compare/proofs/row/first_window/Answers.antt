use Rattle.std.proofs.Common.{rules, tests, arith}
use Rattle.std.proofs.lemmas.Iterator.{IsFirst-from_position, YieldsList-from_slice, YieldsList-from_zip}
use Rattle.bounded.specs.Numbers.{number_of}
use Rattle.pages.specs.Promise.{only}
use Rattle.windows.specs.Windows.{window_of}
use Rattle.compare.proofs.Rows.{Both, first_apart, lacks, none_apart}
use Rattle.compare.proofs.row.first_window.Goals as goal

pub returns-in-Some : goal.returns-in-Some
returns-in-Some c =
    let h = only (number_of c.args.but) in
    let xs = c.args.one.now in
    let ys = c.args.two.now in
    let first = IsFirst-from_position c.position.new.self _ _ (λ p. Both h window_of xs ys p → ⊥) (Both h window_of xs ys) c.in-Some.ensures.ran (YieldsList-from_zip (YieldsList-from_slice xs cc) (YieldsList-from_slice ys cc)) (λ x q k. search (rules, tests)) (λ x q k. search (rules, tests)) in
    first_apart h window_of xs ys _ first.0 first.1 first.2

pub returns-then-one-two : goal.returns-then-one-two
returns-then-one-two c =
    let h = only (number_of c.args.but) in
    let xs = c.args.one.now in
    let ys = c.args.two.now in
    let all = IsFirst-from_position c.position.new.self _ _ (λ p. Both h window_of xs ys p → ⊥) (Both h window_of xs ys) c.in_default.ensures.ran (YieldsList-from_zip (YieldsList-from_slice xs cc) (YieldsList-from_slice ys cc)) (λ x q k. search (rules, tests)) (λ x q k. search (rules, tests)) in
    lacks h window_of xs ys c.min.result c.min.ensures (λ e. omega arith) all

pub returns : goal.returns
returns c =
    let h = only (number_of c.args.but) in
    let xs = c.args.one.now in
    let ys = c.args.two.now in
    let all = IsFirst-from_position c.position.new.self _ _ (λ p. Both h window_of xs ys p → ⊥) (Both h window_of xs ys) c.in_default.ensures.ran (YieldsList-from_zip (YieldsList-from_slice xs cc) (YieldsList-from_slice ys cc)) (λ x q k. search (rules, tests)) (λ x q k. search (rules, tests)) in
    none_apart h window_of xs ys (omega arith) all
