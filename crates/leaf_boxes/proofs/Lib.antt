mod Rooms
mod Inside
mod Grouping
