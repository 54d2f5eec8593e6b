mod Rules
mod Within
mod Fine
