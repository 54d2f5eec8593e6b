-- The line of a request is a line: printed bytes, some words, and far fewer bytes than a line may have.
use Rattle.std.proofs.Common.{◌≡◌, ◌+◌, ◌/◌, ◌%◌, ◌^◌, ◌<◌, ◌≤◌, ◌&&◌, ◌==◌, ℕ, zero, suc, Bool, true, false, List, [], ◌∷◌, ◌++◌, length, Option, None, Some, cond, drop, nat_le, ℤ, ◌<ℤ◌, ◌≤ℤ◌, pos, negsuc, refl, arith, lit<, lit≤}
use Rattle.std.specs.Prelude.{codes}
use Rattle.std.specs.Fmt.{decimal, signed_decimal}
use Rattle.std.specs.List.{list_all}
use Rattle.std.proofs.lemmas.Bool.{and_parts, leb-true}
use Rattle.std.proofs.lemmas.Fmt.{length-decimal-le}
use Rattle.std.proofs.lemmas.Int.{ints}
use Rattle.std.proofs.lemmas.List.{length-append}
use Rattle.spec_text.specs.Printed.{AreFrom, IsLine}
use Rattle.spec_text.proofs.Printed.{decimal_digits, digits_from, from_append, from_less, from_test, printed}
use Rattle.spec_text.proofs.TokenLemmas.{some_token}
use Rattle.spec_ephemeris.specs.declared.body.Body.{Body}
use Rattle.spec_ephemeris.specs.declared.body.Body.TheVariants.{Ssb}
use Rattle.spec_bodies.specs.declared.frame.Frame.{Frame}
use Rattle.spec_bodies.specs.declared.frame.Frame.TheVariants.{Eq}
use Rattle.spec_events.specs.declared.dir.Dir.{Dir}
use Rattle.spec_events.specs.declared.dir.Dir.TheVariants as dir
use Rattle.spec_trees.specs.declared.cuts.CutRule.{CutRule}
use Rattle.spec_trees.specs.declared.cuts.CutRule.TheVariants.{Half}
use Rattle.spec_kinds.specs.declared.kind.Kind.{Kind}
use Rattle.spec_kinds.specs.declared.kind.Kind.TheVariants.{Coord}
use Rattle.spec_kinds.specs.Table.{is_unused, kind_name, row_of}
use Rattle.spec_times.specs.Calendar.{calendar_text, calendar_time, date_text, digits, time_of_day_text, time_text, year_text}
use Rattle.spec_times.specs.Ticks.{fraction_text, past_second, second_of, tick_text}
use Rattle.spec_requests.specs.declared.request.FindAsk.{FindAsk}
use Rattle.spec_requests.specs.Limits.{IsWithinLimits}
use Rattle.spec_requests.specs.Names.{axis_name, body_name, cut_name, dir_name, frame_name}
use Rattle.spec_output.specs.Report.{axes_text, axis_of_kind, bodies_text, limits_text, request_line, second_name, span_text}

-- printed bytes, so many at most
record IsPrinted (most : ℕ) (text : List ℕ) : Type 0 where
  bytes : AreFrom 32 text
  short : length text ≤ most

joined : {m n : ℕ} (xs ys : List ℕ) → IsPrinted m xs → IsPrinted n ys → IsPrinted (m + n) (xs ++ ys)
joined xs ys xs_are ys_are = record {
  bytes = from_append 32 xs ys xs_are.bytes ys_are.bytes;
  short = omega (arith, length-append xs ys, xs_are.short, ys_are.short);
}

-- ---- texts that are looked up
abbrev passes : ℕ → List ℕ → Bool
passes most text = list_all (nat_le 32) text && nat_le (length text) most

tested : (most : ℕ) (text : List ℕ) → passes most text ≡ true → IsPrinted most text
tested most text all =
    let parts = and_parts (list_all (nat_le 32) text) (nat_le (length text) most) all in
    record { bytes = from_test 32 text parts.0; short = leb-true (length text) most parts.1 }

kinds : (kind : Kind) → passes 20 (kind_name kind) ≡ true
kinds Coord = refl
kinds _ = refl

bodies : (body : Body) → passes 20 (body_name body) ≡ true
bodies Ssb = refl
bodies _ = refl

frames : (frame : Frame) → passes 20 (frame_name frame) ≡ true
frames Eq = refl
frames _ = refl

axes : (axis : ℕ) → passes 20 (axis_name axis) ≡ true
axes zero = refl
axes (suc zero) = refl
axes (suc (suc zero)) = refl
axes (suc (suc (suc axis))) = refl

dirs : (wanted : Dir) → passes 20 (dir_name wanted) ≡ true
dirs dir.Any = refl
dirs _ = refl

cuts : (cut : CutRule) → passes 20 (cut_name cut) ≡ true
cuts Half = refl
cuts _ = refl

seconds : (second : Option Body) → IsPrinted 20 (second_name second)
seconds None = tested 20 (codes "-") refl
seconds (Some body) = tested 20 (body_name body) (bodies body)

axis_or_dash : (unused : Bool) (axis : ℕ) → IsPrinted 20 (cond unused (codes "-") (axis_name axis))
axis_or_dash true axis = tested 20 (codes "-") refl
axis_or_dash false axis = tested 20 (axis_name axis) (axes axis)

-- ---- numbers
number : (most n : ℕ) → 0 < most → n < 10 ^ most → n < 2 ^ 64 → IsPrinted most (decimal n)
number most n some few fits = record {
  bytes = from_less 33 32 (decimal n) (lit≤ tt) (digits_from (decimal n) (decimal_digits n fits));
  short = length-decimal-le most n some few fits;
}

signed : (most : ℕ) (z : ℤ) → 0 < most → pos 1 ≤ℤ z → z <ℤ pos (10 ^ most) → z <ℤ pos (2 ^ 64) → IsPrinted most (signed_decimal z)
signed most (pos n) some low high fits = number most n some (omega (arith, ints, high)) (omega (arith, ints, fits))
signed most (negsuc n) some low high fits = absurd (omega (arith, ints, low))

ticks_or_none : (one : Bool) (tick : ℕ) → tick ≤ 1000 → IsPrinted 10 (cond one [] (codes " tick " ++ decimal tick))
ticks_or_none true tick few = record { bytes = tt; short = lit≤ tt }
ticks_or_none false tick few = joined (codes " tick ") (decimal tick) (tested 6 (codes " tick ") refl) (number 4 tick (lit< tt) (omega (arith, few)) (omega (arith, few)))

-- ---- times
some_digits : (k n : ℕ) → IsPrinted k (digits k n)
some_digits zero n = record { bytes = tt; short = lit≤ tt }
some_digits (suc k) n =
    let more = joined {n = 1} (digits k (n / 10)) ((48 + n % 10) ∷ []) (some_digits k (n / 10)) (record { bytes = (omega arith, tt); short = lit≤ tt }) in
    record { bytes = more.bytes; short = omega (arith, more.short) }

behind : (b most : ℕ) (text : List ℕ) → 32 ≤ b → IsPrinted most text → IsPrinted (1 + most) (b ∷ text)
behind b most text low are = record { bytes = (low, are.bytes); short = omega (arith, are.short) }

year : (z : ℤ) → IsPrinted 7 (year_text z)
year (pos n) = let four = some_digits 4 n in record { bytes = four.bytes; short = omega (arith, four.short) }
year (negsuc n) = behind 45 6 (digits 6 (suc n)) (lit≤ tt) (some_digits 6 (suc n))

pair : (b n : ℕ) → 32 ≤ b → IsPrinted 3 (b ∷ digits 2 n)
pair b n low = behind b 2 (digits 2 n) low (some_digits 2 n)

calendar : (c : _) → IsPrinted 22 (calendar_text c)
calendar c =
    joined (date_text c.year c.month c.day) (time_of_day_text c.hour c.minute c.second)
    (joined (year_text c.year ++ (45 ∷ digits 2 c.month)) (45 ∷ digits 2 c.day)
    (joined (year_text c.year) (45 ∷ digits 2 c.month) (year c.year) (pair 45 c.month (lit≤ tt))) (pair 45 c.day (lit≤ tt)))
    (joined ((84 ∷ digits 2 c.hour) ++ (58 ∷ digits 2 c.minute)) (58 ∷ digits 2 c.second)
    (joined (84 ∷ digits 2 c.hour) (58 ∷ digits 2 c.minute) (pair 84 c.hour (lit≤ tt)) (pair 58 c.minute (lit≤ tt))) (pair 58 c.second (lit≤ tt)))

time : (t : ℤ) → IsPrinted 22 (time_text t)
unfolding time_text
time t = calendar (calendar_time t)

fraction : (one : Bool) (n : ℕ) → IsPrinted 4 (cond one [] (46 ∷ digits 3 n))
fraction true n = record { bytes = tt; short = lit≤ tt }
fraction false n = behind 46 3 (digits 3 n) (lit≤ tt) (some_digits 3 n)

tick_time : (tick : ℕ) (t : ℤ) → IsPrinted 26 (tick_text tick t)
unfolding tick_text
tick_time tick t =
    joined (time_text (second_of tick t)) (fraction_text tick (past_second tick t)) (time (second_of tick t)) (fraction (tick == 1) (past_second tick t))

-- ---- the line
named : (name : List ℕ) (m n : ℕ) (value : List ℕ) → passes m name ≡ true → IsPrinted n value → IsPrinted (m + n) (name ++ value)
named name m n value test are = joined name value (tested m name test) are

module _ (find : FindAsk) (is : IsWithinLimits find) where
  bodies_are : IsPrinted 86 (bodies_text find.ask)
  bodies_are =
      joined (codes " target " ++ body_name find.ask.target ++ (codes " second " ++ second_name find.ask.second)) (codes " observer " ++ body_name find.ask.observer)
      (joined (codes " target " ++ body_name find.ask.target) (codes " second " ++ second_name find.ask.second)
      (named (codes " target ") 8 20 (body_name find.ask.target) refl (tested 20 _ (bodies find.ask.target)))
      (named (codes " second ") 8 20 (second_name find.ask.second) refl (seconds find.ask.second)))
      (named (codes " observer ") 10 20 (body_name find.ask.observer) refl (tested 20 _ (bodies find.ask.observer)))

  axes_are : IsPrinted 53 (axes_text find.ask)
  axes_are =
      joined (codes " frame " ++ frame_name find.ask.frame) (codes " axis " ++ axis_of_kind find.ask.kind find.ask.axis)
      (named (codes " frame ") 7 20 (frame_name find.ask.frame) refl (tested 20 _ (frames find.ask.frame)))
      (named (codes " axis ") 6 20 (axis_of_kind find.ask.kind find.ask.axis) refl (axis_or_dash (is_unused (row_of find.ask.kind).axis) find.ask.axis))

  values_are : IsPrinted 89 (codes " values " ++ find.values)
  values_are = named (codes " values ") 8 81 find.values refl (record { bytes = from_less 33 32 find.values (lit≤ tt) is.values.bytes; short = is.values.short })

  limits_are : IsPrinted 52 (limits_text find.width find.depth find.cut)
  limits_are =
      joined (codes " width " ++ signed_decimal find.width ++ (codes " depth " ++ decimal find.depth)) (codes " cut " ++ cut_name find.cut)
      (joined (codes " width " ++ signed_decimal find.width) (codes " depth " ++ decimal find.depth)
      (named (codes " width ") 7 10 (signed_decimal find.width) refl (signed 10 find.width (lit< tt) is.some_width (omega (arith, ints, is.width)) (omega (arith, ints, is.width))))
      (named (codes " depth ") 7 3 (decimal find.depth) refl (number 3 find.depth (lit< tt) (omega (arith, is.depth)) (omega (arith, is.depth)))))
      (named (codes " cut ") 5 20 (cut_name find.cut) refl (tested 20 _ (cuts find.cut)))

  module _ (from to : ℤ) where
    span_is : IsPrinted 59 (codes " span " ++ span_text find.tick from to)
    span_is =
        named (codes " span ") 6 53 (span_text find.tick from to) refl
        (joined (tick_text find.tick from ++ codes " ") (tick_text find.tick to)
        (joined (tick_text find.tick from) (codes " ") (tick_time find.tick from) (tested 1 (codes " ") refl)) (tick_time find.tick to))

    line_is : IsPrinted 399 (request_line find from to)
    line_is =
        joined _ _ (joined _ _ (joined _ _ (joined _ _ (joined _ _ (joined _ _ (joined _ _
        (named (codes "FIND ") 5 20 (kind_name find.ask.kind) refl (tested 20 _ (kinds find.ask.kind)))
        bodies_are) axes_are) values_are)
        (named (codes " dir ") 5 20 (dir_name find.ask.dir) refl (tested 20 _ (dirs find.ask.dir))))
        limits_are) (ticks_or_none (find.tick == 1) find.tick is.tick.few)) span_is

    pub request_is_line : IsLine (request_line find from to)
    request_is_line = printed (request_line find from to) line_is.bytes (omega (arith, line_is.short)) (some_token 70 (drop 1 (request_line find from to)) refl)
