use Rattle.column_steps.proofs.step_list.StepList.enter_barycentric.Goals as goal

pub enter_column-requires : goal.enter_column-requires
enter_column-requires c = record { room = rw c.in-OwnColumn.is at c.requires.room; seen = rw c.in-OwnColumn.is at c.requires.seen }

pub enter_earth-requires : goal.enter_earth-requires
enter_earth-requires c = record { room = rw c.in-EarthOfPair.is at c.requires.room; seen = rw c.in-EarthOfPair.is at c.requires.seen }

pub enter_moon-requires : goal.enter_moon-requires
enter_moon-requires c = record { room = rw c.in-MoonOfPair.is at c.requires.room; seen = rw c.in-MoonOfPair.is at c.requires.seen }

pub enter_zero-requires : goal.enter_zero-requires
enter_zero-requires c = record { room = rw c.in-Origin.is at c.requires.room }

pub returns-in-OwnColumn : goal.returns-in-OwnColumn
returns-in-OwnColumn c = rw c.in-OwnColumn.is c.enter_column.ensures

pub returns-in-EarthOfPair : goal.returns-in-EarthOfPair
returns-in-EarthOfPair c = rw c.in-EarthOfPair.is c.enter_earth.ensures

pub returns-in-MoonOfPair : goal.returns-in-MoonOfPair
returns-in-MoonOfPair c = rw c.in-MoonOfPair.is c.enter_moon.ensures

pub returns-in-Origin : goal.returns-in-Origin
returns-in-Origin c = rw c.in-Origin.is c.enter_zero.ensures
