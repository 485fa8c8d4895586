mod Hearing
mod Reading
mod Saying
