mod Numbers
mod Places
mod Reading
